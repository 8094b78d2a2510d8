-- The report of a run over what a seat has read whole, and calls of a session that follow each other.
use Rattle.std.proofs.Common.{◌≡◌, ◌∙◌, refl, sym, ap, subst, ℕ, ◌+◌, ◌*◌, ◌≤◌, ◌==◌, Bool, true, false, if◌then◌else◌}
use Rattle.std.proofs.Common.{List, ◌++◌, map, append_assoc, length}
use Rattle.std.specs.Prelude.{Some, None, All, ℤ}
use Rattle.std.proofs.lemmas.List.{map-append}
use Rattle.std.proofs.lemmas.List.Elements.{All-weaker}
use Rattle.std.proofs.lemmas.Option.{same_Some}
use Rattle.cj_ir.specs.WellFormed.{IsWellFormed, Takes}
use Rattle.cj_ir.specs.declared.language.Program.{Program}
use Rattle.cj_base.specs.declared.machine.End.{End}
use Rattle.cj_base.specs.Run.{Begun, base_run, Over}
use Rattle.cj_draft.specs.Sound.{Sound}
use Rattle.cj_draft.specs.Contexts.{context_in}
use Rattle.cj_codec.specs.Reading.{decoded}
use Rattle.cj_codec.proofs.CodeFormats.{decoded_exactly}
use Rattle.cj_calls.specs.declared.report.Look.{Look}
use Rattle.cj_calls.specs.declared.report.Report.{Report}
use Rattle.cj_calls.specs.Reports.{ReportStands, IsWhole}
use Rattle.cj_machine.specs.Versions.{State, Codes, Progress, Continues, Finishes, Undefined}
use Rattle.cj_machine.specs.VersionRuns.{version_run, report_of, if_used, report_at, version_report}
use Rattle.cj_machine.specs.CodeMaps.{SoundCodes}
use Rattle.cj_profile.specs.declared.view.Read.{Read}
use Rattle.cj_publish.specs.declared.view.Cell.{Cell}
use Rattle.cj_publish.specs.declared.view.View.{View}
use Rattle.cj_publish.specs.Plays.{IsReliable}
use Rattle.cj_publish.specs.Spelled.{SpellsVersion}
use Rattle.cj_parts.specs.Known.{known_codes}
use Rattle.cj_parts.specs.Looks.{looked, NeverFall, IsAbove, IsNotOlder, IsSeen}
use Rattle.cj_parts.specs.Calls.{IsV, Stands, CallPart}
use Rattle.cj_parts.specs.Runs.{Ran}
use Rattle.cj_parts.proofs.Known.{known_in, codes_grow}
use Rattle.cj_parts.proofs.Growth.{call_grows}
use Rattle.cj_parts.proofs.Rising.{looks_never_fall, not_older_is_above}

-- ---- a report is that of the run over its own looks

used : (trail : List Look) (end : End) (s : State) (b : Bool) (r : Report) → (if b then Some (report_of trail end s) else None) ≡ Some r → r.looks ≡ trail
unfolding report_of
used trail end s true r e = sym (ap (λ (x : Report). x.looks) (same_Some (report_of trail end s) r e))
used trail end s false r e = let never : None ≡ Some r = e in absurd cc

looks_at : (trail : List Look) (o : Progress) (r : Report) → report_at trail o ≡ Some r → r.looks ≡ trail
unfolding report_at if_used
looks_at trail (Continues s) r e = used trail _ s (s.entries == length trail) r e
looks_at trail (Finishes end s) r e = used trail end s (s.entries == length trail) r e
looks_at trail Undefined r e = let never : None ≡ Some r = e in absurd cc

pub is_v : (P : Program) (codes : Codes) (trail : List Look) (call : Begun) (r : Report) → version_report P codes trail call ≡ Some r → IsV P codes call r
unfolding version_report
is_v P codes trail call r e =
    subst (λ (l : List Look). version_report P codes l call ≡ Some r) (sym (looks_at trail (version_run P codes trail call call.limit) r e)) e

-- ---- what is read whole is sound

pub known_sound : (P : Program) (v : View) → IsReliable v → v.key.program ≡ P → SoundCodes P (known_codes v)
known_sound P v ok e f offset code found =
    let h = known_in v f offset code found in
    let x = h.1.0 in
    let whole : length x.read ≡ x.len = ap length h.1.5 ∙ sym h.1.4 in
    let spells : SpellsVersion v.key.program x.cell.function x.cell.slot x.read = (ok.spelled x h.1.1).1 whole in
    let read : decoded x.read ≡ Some spells.code = (decoded_exactly x.read (decoded x.read) refl spells.code).1 spells.spells in
    let ours : decoded h.0 ≡ Some code = (decoded_exactly h.0 (decoded h.0) refl code).1 h.2 in
    let same : spells.code ≡ code = same_Some spells.code code (sym read ∙ ap decoded h.1.5 ∙ ours) in
    let at_cell : Sound P (context_in x.cell.slot) x.cell.function code =
    subst (λ (Q : Program). Sound Q (context_in x.cell.slot) x.cell.function code) e
    (subst (Sound v.key.program (context_in x.cell.slot) x.cell.function) same spells.sound) in
    subst (λ (c : Cell). Sound P (context_in c.slot) c.function code) h.1.2 at_cell

-- what the law of the engine says
abbrev pub HasHeadlines : Type 0
HasHeadlines = (P : Program) (codes : Codes) (looks : List Look) (call : Begun) (r : Report) → IsWellFormed P → SoundCodes P codes
    → Takes P.functions call.function (length call.args) → version_report P codes looks call ≡ Some r → ReportStands P call r × IsWhole P call r

pub known_stand : HasHeadlines → (P : Program) (v : View) (call : Begun) (r : Report) → IsReliable v → v.key.program ≡ P → IsWellFormed P
    → Takes P.functions call.function (length call.args) → IsV P (known_codes v) call r → Stands P call r
known_stand law P v call r ok e formed takes is = law P (known_codes v) r.looks call r formed (known_sound P v ok e) takes is

-- two reports of a call agree where the limit is large enough
pub stand_alike : (P : Program) (call : Begun) (r s : Report) (n : ℕ) (printed : List ℤ) (by : End) → Stands P call r → Stands P call s
    → base_run P call n ≡ Over printed by n → 45 * (n + 1) ≤ call.limit → (r.printed ≡ s.printed) × (r.end ≡ s.end)
stand_alike P call r s n printed by h k run room =
    let one = h.1 n printed by run room in
    let two = k.1 n printed by run room in
    (one.0 ∙ sym two.0, one.1 ∙ sym two.1)

-- ---- calls that follow each other

-- a look of a call is above all that its seat had seen before it
pub ran_above : (P : Program) (call : Begun) (r : Report) (v w : View) (old new : List Read) (floor : List Look) → Ran P call r v w old new
    → All (IsSeen v) floor → All (IsAbove floor) r.looks
ran_above P call r v w old new floor ran seen =
    All-weaker (IsNotOlder v) (IsAbove floor) (λ (look : Look) (o : IsNotOlder v look). not_older_is_above v floor look seen o) r.looks ran.floor

module _ (P : Program) (call next : Begun) (r s : Report) (u v w : View) (old mid new : List Read)
    (first : Ran P call r u v old mid) (second : Ran P next s v w mid new) (ok : IsReliable w) where
  pub looks_on : (before : List Look) → u.lookups ≡ map looked before → NeverFall ((before ++ r.looks) ++ s.looks)
  looks_on before e =
      looks_never_fall w ((before ++ r.looks) ++ s.looks) ok
      (second.trail ∙ ap (λ (l : List (Cell × ℕ)). l ++ map looked s.looks) (first.trail ∙ ap (λ (l : List (Cell × ℕ)). l ++ map looked r.looks) e
      ∙ sym (map-append looked before r.looks)) ∙ sym (map-append looked (before ++ r.looks) s.looks))

  -- one part each, over what was read whole in the end
  pub both_parts : (one : List Read) × (two : List Read) × CallPart P (known_codes w) call r one × CallPart P (known_codes w) next s two
      × (new ≡ old ++ (one ++ two))
  both_parts = (
    first.reads.0,
    second.reads.0,
    call_grows P (known_codes v) (known_codes w) (codes_grow v w second.learns ok) call r first.reads.0 first.reads.1,
    second.reads.1,
    second.reads.2 ∙ ap (λ (l : List Read). l ++ second.reads.0) first.reads.2 ∙ append_assoc old first.reads.0 second.reads.0,
  )
