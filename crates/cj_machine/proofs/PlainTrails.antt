-- Over a trail that never finds a version the run is plain: base frames alone, and a base turn in each turn.
use Rattle.std.proofs.Common.{◌≡◌, ℕ, zero, suc, ◌+◌, ◌==◌, Bool, true, false, List, [], ◌∷◌, length, Option, Some, None, refl, subst, arith}
use Rattle.std.specs.Prelude.{ℤ, slice_get, ⊤, IfSome, if◌then◌else◌}
use Rattle.std.specs.Option.{option_and_then}
use Rattle.cj_ir.specs.Program.{instr_at}
use Rattle.cj_ir.specs.declared.language.FunId.{FunId}
use Rattle.cj_ir.specs.declared.language.Program.{Program}
use Rattle.cj_ir.specs.declared.language.Instr.{Instr}
use Rattle.cj_base.specs.declared.machine.Frame.{Frame}
use Rattle.cj_base.specs.declared.machine.End.{End}
use Rattle.cj_base.specs.declared.machine.End.TheVariants.{TurnLimit}
use Rattle.cj_base.specs.Machine.{Effect, On, Calls, Returns, Faults, effect, resumed}
use Rattle.cj_base.specs.Run.{Begun}
use Rattle.cj_ir.proofs.ListReads.{all_at}
use Rattle.cj_calls.specs.declared.report.Look.{Look}
use Rattle.cj_calls.specs.declared.report.Report.{Report}
use Rattle.cj_activations.specs.Activations.{Active, InBase, InVersion, Paused, BaseWaits, VersionWaits, Stacked}
use Rattle.cj_machine.specs.Versions.{State, Codes, Progress, Continues, Finishes, Undefined, moved_to, paused, entered_at, offset_told, entered, counted}
use Rattle.cj_machine.specs.Versions.{enters, returns_to, turn_by, turn_in_base, turn_of, version_turn}
use Rattle.cj_machine.specs.VersionRuns.{first_state, begins_in, version_start, one_turn_more, version_run, report_of, if_used, report_at, version_report}
use Rattle.cj_machine.specs.CodeMaps.{IsPlainTrail, IsPlainReport}

abbrev pub IsInBase : Active → Type 0
IsInBase (InBase fr) = ⊤
IsInBase (InVersion v) = ⊥

abbrev pub AreBaseWaiting : List Paused → Type 0
AreBaseWaiting [] = ⊤
AreBaseWaiting (BaseWaits w ∷ others) = AreBaseWaiting others
AreBaseWaiting (VersionWaits v ∷ others) = ⊥

-- base frames alone, and no turn but base turns
pub record IsPlainState (s : State) : Type 0 where
  pub top : IsInBase s.stack.top
  pub waiting : AreBaseWaiting s.stack.waiting
  pub turns : s.turns ≡ s.base_turns
  pub fails : s.fails ≡ 0
  pub notes : s.notes ≡ []

abbrev pub IsPlainAt : Progress → Type 0
IsPlainAt (Continues s) = IsPlainState s
IsPlainAt (Finishes end s) = IsPlainState s
IsPlainAt Undefined = ⊤

-- a look that found the base body, if there is one
abbrev pub IsPlainLook : Option Look → Type 0
IsPlainLook None = ⊤
IsPlainLook (Some look) = look.offset ≡ 0

pub next_plain : (trail : List Look) (n : ℕ) → IsPlainTrail trail → IsPlainLook (slice_get trail n)
next_plain trail n plain = go (slice_get trail n) refl
  where
    go : (o : Option Look) → slice_get trail n ≡ o → IsPlainLook o
    go None e = tt
    go (Some look) e = all_at (λ (l : Look). l.offset ≡ 0) trail n look plain e

abbrev EntersBase : Option Active → Type 0
EntersBase None = ⊤
EntersBase (Some top) = IsInBase top

module _ (P : Program) (codes : Codes) where
  plain_at : (f : FunId) (args : List ℤ) (n : ℕ) → n ≡ 0 → EntersBase (entered_at P codes f args n)
  unfolding entered_at
  plain_at f args zero e = tt
  plain_at f args (suc n) e = absurd (omega arith)

  plain_named : (f : FunId) (args : List ℤ) (n : ℕ) (b : Bool) → n ≡ 0 → EntersBase (option_and_then (entered_at P codes f args) (if b then Some n else None))
  plain_named f args n true e = plain_at f args n e
  plain_named f args n false e = tt

  plain_entered : (look : Option Look) → IsPlainLook look → (f : FunId) (args : List ℤ) → EntersBase (entered P codes look f args)
  unfolding entered offset_told
  plain_entered None plain f args = tt
  plain_entered (Some look) plain f args = plain_named f args look.offset (look.function.0 == f.0) plain

  plain_counted : (s : State) (now : Stacked) (m printed : List ℤ) (entries : ℕ) → IsPlainState s → IsInBase now.top → AreBaseWaiting now.waiting →
      IsPlainState (counted s now m printed entries)
  unfolding counted
  plain_counted s now m printed entries h top waiting =
      let t = h.turns in
      record { top = top; waiting = waiting; turns = omega arith; fails = h.fails; notes = h.notes }

  plain_enters : (s : State) (fr : Frame) (caller : Paused) (o : Option Active) → IsPlainState s → AreBaseWaiting (caller ∷ s.stack.waiting) → EntersBase o →
      IsPlainAt (enters s caller o)
  unfolding enters
  plain_enters s fr caller None h waiting o = tt
  plain_enters s fr caller (Some top) h waiting o =
      plain_counted s (record { top = top; waiting = caller ∷ s.stack.waiting }) s.memory [] (s.entries + 1) h o waiting

  plain_returns : (s : State) (value : ℤ) (callers : List Paused) → IsPlainState s → AreBaseWaiting callers → IsPlainAt (returns_to codes s value callers)
  unfolding returns_to
  plain_returns s value [] h waiting =
      plain_counted s (record { top = s.stack.top; waiting = [] }) s.memory [] s.entries h h.top tt
  plain_returns s value (BaseWaits w ∷ others) h waiting =
      plain_counted s (record { top = InBase (resumed w value); waiting = others }) s.memory [] s.entries h tt waiting
  plain_returns s value (VersionWaits v ∷ others) h waiting = absurd waiting

  plain_by : (look : Option Look) → IsPlainLook look → (s : State) (fr : Frame) (e : Effect) → IsPlainState s → IsPlainAt (turn_by P codes look s (InBase fr) e)
  unfolding turn_by moved_to paused
  plain_by look plain s fr (On next regs m printed) h =
      plain_counted s (record { top = InBase (record { function = fr.function; label = next; regs = regs }); waiting = s.stack.waiting }) m printed s.entries h
      tt h.waiting
  plain_by look plain s fr (Calls dest f args next) h =
      plain_enters s fr (paused (InBase fr) next dest) (entered P codes look f args) h h.waiting (plain_entered look plain f args)
  plain_by look plain s fr (Returns value) h = plain_returns s value s.stack.waiting h h.waiting
  plain_by look plain s fr (Faults fault) h = plain_counted s s.stack s.memory [] s.entries h h.top h.waiting

  plain_base : (look : Option Look) → IsPlainLook look → (s : State) (fr : Frame) (o : Option Instr) → IsPlainState s →
      IsPlainAt (turn_in_base P codes look s fr o)
  unfolding turn_in_base
  plain_base look plain s fr None h = tt
  plain_base look plain s fr (Some i) h = plain_by look plain s fr (effect i fr s.memory) h

  plain_of : (look : Option Look) → IsPlainLook look → (s : State) (a : Active) → IsInBase a → IsPlainState s → IsPlainAt (turn_of P codes look s a)
  unfolding turn_of
  plain_of look plain s (InBase fr) top h = plain_base look plain s fr (instr_at P fr.function fr.label) h
  plain_of look plain s (InVersion v) top h = absurd top

  -- a turn keeps that the state is plain
  pub plain_turn : (look : Option Look) → IsPlainLook look → (s : State) → IsPlainState s → IsPlainAt (version_turn P codes look s)
  unfolding version_turn
  plain_turn look plain s h = plain_of look plain s s.stack.top h.top h

  plain_begins : (call : Begun) (o : Option Active) → EntersBase o → IsPlainAt (begins_in call o)
  unfolding begins_in first_state
  plain_begins call None h = tt
  plain_begins call (Some top) h = record { top = h; waiting = tt; turns = refl; fails = refl; notes = refl }

  module _ (trail : List Look) (plain : IsPlainTrail trail) (call : Begun) where
    plain_more : (o : Progress) → IsPlainAt o → IsPlainAt (one_turn_more P codes trail o)
    unfolding one_turn_more
    plain_more (Continues s) h = plain_turn (slice_get trail s.entries) (next_plain trail s.entries plain) s h
    plain_more (Finishes end s) h = h
    plain_more Undefined h = h

    pub plain_run : (n : ℕ) → IsPlainAt (version_run P codes trail call n)
    unfolding version_run version_start
    plain_run zero =
        plain_begins call (entered P codes (slice_get trail 0) call.function call.args)
        (plain_entered (slice_get trail 0) (next_plain trail 0 plain) call.function call.args)
    plain_run (suc n) = plain_more (version_run P codes trail call n) (plain_run n)

    plain_used : (end : End) (s : State) (b : Bool) → IsPlainState s → IfSome (if b then Some (report_of trail end s) else None) IsPlainReport
    unfolding report_of
    plain_used end s true h = record { turns = h.turns; fails = h.fails; notes = h.notes }
    plain_used end s false h = tt

    plain_report_at : (o : Progress) → IsPlainAt o → IfSome (report_at trail o) IsPlainReport
    unfolding report_at if_used
    plain_report_at (Continues s) h = plain_used TurnLimit s (s.entries == length trail) h
    plain_report_at (Finishes end s) h = plain_used end s (s.entries == length trail) h
    plain_report_at Undefined h = tt

    -- the report is plain: its turns are base turns, and no Assume failed
    pub plain_report : IfSome (version_report P codes trail call) IsPlainReport
    unfolding version_report
    plain_report = plain_report_at (version_run P codes trail call call.limit) (plain_run call.limit)

pub plain_report_is : (P : Program) (codes : Codes) (trail : List Look) (call : Begun) (r : Report) → IsPlainTrail trail →
    version_report P codes trail call ≡ Some r → IsPlainReport r
plain_report_is P codes trail call r plain found = subst (λ o. IfSome o IsPlainReport) found (plain_report P codes trail plain call)
