-- A turn of the versioned machine keeps that its state stands for the base run, and ends that run as its turn does.
use Rattle.std.proofs.Common.{◌≡◌, ◌≢◌, ℕ, zero, suc, ◌+◌, ◌-◌, ◌≤◌, Bool, true, false, List, [], ◌∷◌, ◌++◌, length, map, Option, Some, None, refl, sym, ap}
use Rattle.std.proofs.Common.{◌∙◌, subst, arith, append-nil, ⊎_elim}
use Rattle.std.proofs.lemmas.List.Elements.{All-contains, Contains-push_cases}
use Rattle.std.proofs.lemmas.List.{length-map}
use Rattle.std.specs.Prelude.{ℤ, slice_set, nat_lt, if◌then◌else◌}
use Rattle.std.specs.List.{Contains}
use Rattle.std.specs.Option.{option_and_then}
use Rattle.cj_ir.specs.Program.{instr_at}
use Rattle.cj_ir.specs.Values.{operand_value}
use Rattle.cj_ir.specs.WellFormed.{IsWellFormed, Takes}
use Rattle.cj_ir.specs.declared.language.FunId.{FunId}
use Rattle.cj_ir.specs.declared.language.Label.{Label}
use Rattle.cj_ir.specs.declared.language.Reg.{Reg}
use Rattle.cj_ir.specs.declared.language.Program.{Program}
use Rattle.cj_ir.specs.declared.language.Instr.{Instr}
use Rattle.cj_ir.specs.declared.language.Instr.TheVariants as instr
use Rattle.cj_base.specs.declared.machine.Frame.{Frame}
use Rattle.cj_base.specs.declared.machine.Waiting.{Waiting}
use Rattle.cj_base.specs.declared.machine.End.{End}
use Rattle.cj_base.specs.declared.machine.End.TheVariants.{Returned, TurnLimit}
use Rattle.cj_base.specs.Machine as machine
use Rattle.cj_base.specs.Machine.{Stack, over, Fault, FailedAt, BadAddress, ZeroDivisor, Effect, On, Calls, Returns, Faults, effect, Outcome, Goes, Ends}
use Rattle.cj_base.specs.Machine.{end_of, entry_regs, entry_frame, waits, resumed, give, turn_at, base_turn}
use Rattle.cj_base.specs.Same.{Same}
use Rattle.cj_base.specs.Run.{Begun, ran, RunAt, EndStands}
use Rattle.cj_base.proofs.SameLaws.{same_refl}
use Rattle.cj_base.proofs.Segments.{lift_fault, run_segment, run_same, After}
use Rattle.cj_base.proofs.FitsLemmas.{fine_at, fault_freely}
use Rattle.cj_draft.specs.declared.points.Point.{Point}
use Rattle.cj_draft.specs.declared.code.Back.{Back}
use Rattle.cj_draft.specs.declared.code.Place.{Place}
use Rattle.cj_draft.specs.declared.code.Code.{Code}
use Rattle.cj_draft.specs.Points.{frames_of}
use Rattle.cj_draft.specs.Effects.{VersionEffect, Plain, Guarded, version_effect}
use Rattle.cj_draft.specs.Arrives.{place_at, Satisfies, Arrives, IsAtCall, left_by, left_waiting, returned_by, after_call}
use Rattle.cj_draft.specs.WellNamed.{IsPlaceFine, IsBackFine}
use Rattle.cj_draft.specs.Sound.{pair_of, StepsOn, Resumes, StepsIn, Passes, SoundEffect, guard_next, RowWithin}
use Rattle.cj_ir.proofs.ListReads.{all_at}
use Rattle.cj_calls.specs.declared.report.Look.{Look}
use Rattle.cj_calls.specs.declared.report.Note.{Note}
use Rattle.cj_calls.specs.Reports.{NoteStands, NotesStand}
use Rattle.cj_activations.specs.Activations.{VersionFrame, Active, InBase, InVersion, Paused, BaseWaits, VersionWaits, Stacked}
use Rattle.cj_machine.specs.Versions.{State, Codes, place_in, moved_to, paused, version_entry, entered, counted, enters, resumed_by, resumed_at, returns_to}
use Rattle.cj_machine.specs.Versions.{turn_by, passed, keep_note, rebuilt, version_turn_by, turn_in_base, turn_in_version, turn_of, version_turn}
use Rattle.cj_machine.specs.CodeMaps.{SoundCodes, Grows}
use Rattle.cj_machine.specs.Stands.{IsPlaced, IsPausedVersion, PausedIs, PausedAre, BackStands, VersionTop, TopStands, versions_on_top, versions_waiting}
use Rattle.cj_machine.specs.Stands.{CountsStand, Stands, HasEnded, Holds}
use Rattle.cj_machine.proofs.Memories.{memory_over}
use Rattle.cj_machine.proofs.Counting.{counts_on, counts_pass, counts_fail, counts_bound}
use Rattle.cj_machine.proofs.Effects.{TakesOf, effect_takes, GuardedBy, guarded_by, CallsBy, VersionCallsBy, calls_by}
use Rattle.cj_machine.proofs.Backs.{own_back, silent_keeps, carried_back}
use Rattle.cj_machine.proofs.Entries.{by_entry}
use Rattle.cj_machine.proofs.Growing.{stands_grows}

pub place_found : (codes : Codes) (v : VersionFrame) (p : IsPlaced codes v) → place_in codes v ≡ Some p.place
unfolding place_in
place_found codes v p = ap (option_and_then (λ (code : Code). place_at code v.label)) p.found ∙ p.at

-- the frames that a call leaves waiting, with its value
pub give_left : (P : Program) (stack : Stack) (f : FunId) (args : List ℤ) → IsAtCall P stack f args → (value : ℤ) (behind : List Waiting) (m : List ℤ) →
    give value (left_waiting P stack ++ behind) m ≡ Goes [] (record { stack = over (after_call P stack value) behind; memory = m })
unfolding left_waiting left_by after_call returned_by over give
give_left P stack f args c value behind m =
    subst (λ i. give value (left_by i stack ++ behind) m ≡ Goes [] (record { stack = over (returned_by i stack value) behind; memory = m })) (sym c.at) refl

-- a call's turn
pub call_turn : (P : Program) (stack : Stack) (f : FunId) (args : List ℤ) → IsAtCall P stack f args → (m : List ℤ) →
    base_turn P stack m ≡ Goes [] (record { stack = record { top = entry_frame P f args; waiting = left_waiting P stack }; memory = m })
unfolding base_turn turn_at machine.turn_by effect left_waiting left_by
call_turn P stack f args c m =
    subst (λ i. turn_at P i stack m ≡ Goes [] (record { stack = record { top = entry_frame P f args; waiting = left_by i stack }; memory = m })) (sym c.at)
    (ap (λ xs. Goes [] (record { stack = record { top = entry_frame P f xs; waiting = waits stack.top c.next c.dest ∷ stack.waiting }; memory = m })) c.values)

returned_no_limit : (value : ℤ) → Returned value ≢ TurnLimit
returned_no_limit value = λ e. cc

-- the row ahead of a label where an Assume or Anchor stands is not empty
row_ahead : (code : Code) (row : ℕ) (label : Label) (place : Place) (next : Label) → place_at code label ≡ Some place → guard_next place.instr ≡ Some next →
    RowWithin code row label → (k : ℕ) × (row ≡ suc k) × RowWithin code k next
row_ahead code zero label place next at g r =
    let none : guard_next place.instr ≡ None = r place at in
    let never : ⊥ = cc in
    absurd never
row_ahead code (suc k) label place next at g r = (k, refl, r place next at g)

-- every argument list satisfies the empty context
pub no_context : (args : List ℤ) → Satisfies [] args
no_context args i d lt = absurd (omega arith)

module _ (P : Program) (codes : Codes) (call : Begun) (formed : IsWellFormed P) (sound : SoundCodes P codes) where
  -- what a state that stands has, part by part
  record Here (s : State) (since row : ℕ) (stack : Stack) (below : List Waiting) : Type 0 where
    run : RunAt P call s.base_turns s.printed (over stack below) s.memory
    waiting : PausedAre P codes s.stack.waiting below
    counts : CountsStand s since row
    notes : NotesStand P call s.notes

  -- a turn that counts: the new top, its frames and waiting frames
  on_stands : (s : State) (since row : ℕ) (stack : Stack) (below : List Waiting) → Here s since row stack below →
      (now : Stacked) (m printed : List ℤ) (entries : ℕ) (stack' : Stack) (below' : List Waiting) →
      RunAt P call (s.base_turns + 1) (s.printed ++ printed) (over stack' below') m → PausedAre P codes now.waiting below' → entries ≤ s.entries + 1 →
      versions_on_top now.top + versions_waiting now.waiting + s.entries ≤ versions_on_top s.stack.top + versions_waiting s.stack.waiting + entries →
      TopStands P codes call (counted s now m printed entries) below' 8 now.top stack' → Stands P codes call (counted s now m printed entries)
  unfolding counted
  on_stands s since row stack below h now m printed entries stack' below' run' waiting' used versions top =
      record {
        stack = stack';
        below = below';
        since = 0;
        row = 8;
        run = run';
        top = top;
        waiting = waiting';
        counts = counts_on s since row now m printed entries h.counts used versions;
        notes = h.notes;
      }

  -- a label that is arrived at, with its pairs
  pub top_at : (s' : State) (below : List Waiting) (v : VersionFrame) (code : Code) (stack : Stack) → codes v.function v.offset ≡ Some code →
      (a : Arrives P code v.label v.regs stack) → ((pair : Back) → Contains a.place.backs pair → BackStands P call s' below v.regs pair) →
      VersionTop P codes call s' below 8 v (frames_of P a.place.point v.regs)
  top_at s' below v code stack found a backs =
      record {
        placed = record { code = code; place = a.place; found = found; at = a.at; admits = a.admits };
        same = refl;
        backs = backs;
        ahead = (sound v.function v.offset code found).rows v.label;
      }

  -- the pairs of a label that is arrived at with its own pairs alone
  pub own_backs : (s' : State) (below : List Waiting) (regs : List ℤ) (code : Code) (label : Label) (stack : Stack) →
      RunAt P call s'.base_turns s'.printed (over stack below) s'.memory → s'.entries ≤ s'.base_turns + 1 → (r : Resumes P code label regs stack) →
      (pair : Back) → Contains r.arrives.place.backs pair → BackStands P call s' below regs pair
  own_backs s' below regs code label stack run used r pair i =
      own_back P call s' below r.arrives.place regs stack pair run r.arrives.same used (r.backs pair i)

  -- the run ends
  ends_holds : (s : State) (since row : ℕ) (stack : Stack) (below : List Waiting) → Here s since row stack below → (end : End) → end ≢ TurnLimit →
      (now : Stacked) → EndStands P call (s.base_turns + 1) s.printed end → HasEnded P call end (counted s now s.memory [] s.entries)
  unfolding counted
  ends_holds s since row stack below h end other now run' =
      let b = counts_bound s since row h.counts in
      let prints : s.printed ≡ s.printed ++ [] = sym (append-nil s.printed) in
      record {
        run = subst (λ p. EndStands P call (s.base_turns + 1) p end) prints run';
        memory = memory_over P call s.base_turns s.printed s.printed (record { stack = h.run.found; memory = s.memory }) end (s.base_turns + 1) h.run.run run';
        notes = h.notes;
        bound = omega arith;
        no_limit = other;
      }

  -- a version goes on after its call
  resume_call : (s : State) (since row : ℕ) (stack : Stack) (below : List Waiting) → Here s since row stack below →
      (value : ℤ) (v : VersionFrame) (others : List Paused) (behind : List Waiting) (p : IsPlaced codes v) (dest : Reg) (f : FunId) (args : List ℤ)
      (next : Label) → StepsIn P p.code p.place v.regs dest f args next → PausedAre P codes others behind →
      versions_waiting others + 1 ≤ versions_waiting s.stack.waiting →
      After P call (s.base_turns + 1) s.printed (give value (left_waiting P (frames_of P p.place.point v.regs) ++ behind) s.memory) →
      Stands P codes call (counted s (record { top = moved_to (InVersion v) next (slice_set v.regs dest.0 value); waiting = others }) s.memory [] s.entries)
  unfolding versions_on_top counted moved_to
  resume_call s since row stack below h value v others behind p dest f args next step waiting' fewer run' =
      let regs' = slice_set v.regs dest.0 value in
      let v' : VersionFrame = record { function = v.function; offset = v.offset; label = next; regs = regs' } in
      let now : Stacked = record { top = InVersion v'; waiting = others } in
      let frames = frames_of P p.place.point v.regs in
      let after = after_call P frames value in
      let r : Resumes P p.code next regs' after = step.resumes value in
      let s' : State = counted s now s.memory [] s.entries in
      let en0 = h.counts.entries in
      let en : s.entries ≤ s.base_turns + 1 + 1 = omega arith in
      let run2 : RunAt P call (s.base_turns + 1) (s.printed ++ []) (over after behind) s.memory =
      subst (After P call (s.base_turns + 1) s.printed) (give_left P frames f args step.call value behind s.memory) run' in
      let backs = own_backs s' behind regs' p.code next after run2 en r in
      let run3 = run_same P call (s.base_turns + 1) (s.printed ++ []) after (frames_of P r.arrives.place.point regs') behind s.memory run2 r.arrives.same in
      on_stands s since row stack below h now s.memory [] s.entries (frames_of P r.arrives.place.point regs') behind run3 waiting' (omega arith) (omega arith)
      (top_at s' behind v' p.code after p.found r.arrives backs)

  resume_holds : (s : State) (since row : ℕ) (stack : Stack) (below : List Waiting) → Here s since row stack below →
      (value : ℤ) (v : VersionFrame) (others : List Paused) (front behind : List Waiting) → IsPausedVersion P codes v front → PausedAre P codes others behind →
      versions_waiting others + 1 ≤ versions_waiting s.stack.waiting → After P call (s.base_turns + 1) s.printed (give value (front ++ behind) s.memory) →
      Holds P codes call (resumed_at s others v value (place_in codes v))
  unfolding resumed_at resumed_by version_effect
  resume_holds s since row stack below h value v others front behind w waiting' fewer run' =
      let p = w.placed in
      let step0 = (sound v.function v.offset p.code p.found).places v.label p.place p.at v.regs s.memory p.admits in
      let step : StepsIn P p.code p.place v.regs w.dest w.function (map (operand_value v.regs) w.args) w.next =
      subst (λ i. SoundEffect P p.code p.place v.regs s.memory (version_effect i v.regs s.memory)) w.instr step0 in
      let run2 = subst (λ ws. After P call (s.base_turns + 1) s.printed (give value (ws ++ behind) s.memory)) w.same run' in
      subst (λ o. Holds P codes call (resumed_at s others v value o)) (sym (place_found codes v p))
      (subst (λ i. Holds P codes call (resumed_by s others v value i)) (sym w.instr)
      (resume_call s since row stack below h value v others behind p w.dest w.function (map (operand_value v.regs) w.args) w.next step waiting' fewer run2))

  returns_holds : (s : State) (since row : ℕ) (stack : Stack) (below : List Waiting) → Here s since row stack below →
      (value : ℤ) (callers : List Paused) (left : List Waiting) → PausedAre P codes callers left →
      versions_waiting callers ≤ versions_waiting s.stack.waiting → After P call (s.base_turns + 1) s.printed (give value left s.memory) →
      Holds P codes call (returns_to codes s value callers)
  unfolding returns_to ran give over versions_on_top versions_waiting counted
  returns_holds s since row stack below h value [] left e fewer run' =
      ends_holds s since row stack below h (Returned value) (returned_no_limit value) (record { top = s.stack.top; waiting = [] })
      (subst (λ ws. After P call (s.base_turns + 1) s.printed (give value ws s.memory)) e run')
  returns_holds s since row stack below h value (BaseWaits w ∷ others) left e fewer run' =
      let same = e.4 ∙ ap (λ front. front ++ e.1) e.2 in
      let run2 = subst (λ ws. After P call (s.base_turns + 1) s.printed (give value ws s.memory)) same run' in
      on_stands s since row stack below h (record { top = InBase (resumed w value); waiting = others }) s.memory [] s.entries
      (record { top = resumed w value; waiting = [] }) e.1 run2 e.3 (omega arith) (omega arith) refl
  returns_holds s since row stack below h value (VersionWaits v ∷ others) left e fewer run' =
      resume_holds s since row stack below h value v others e.0 e.1 e.2 e.3 fewer
      (subst (λ ws. After P call (s.base_turns + 1) s.printed (give value ws s.memory)) e.4 run')

  -- What the effect of the top activation's instruction owes.
  abbrev Owes : State → Stack → List Waiting → Active → Effect → Type 0
  Owes s stack below top (On next regs m printed) =
      (went : Stack) × (base_turn P stack s.memory ≡ Goes printed (record { stack = went; memory = m })) × (now : Stack) × Same P went now
      × (RunAt P call (s.base_turns + 1) (s.printed ++ printed) (over went below) m →
      TopStands P codes call (counted s (record { top = moved_to top next regs; waiting = s.stack.waiting }) m printed s.entries) below 8
      (moved_to top next regs) now)
  Owes s stack below top (Calls dest f args next) =
      (left : List Waiting)
      × (base_turn P stack s.memory ≡ Goes [] (record { stack = record { top = entry_frame P f args; waiting = left }; memory = s.memory }))
      × PausedIs P codes (paused top next dest) left × Takes P.functions f (length args)
  Owes s stack below top (Returns value) = base_turn P stack s.memory ≡ Ends (Returned value)
  Owes s stack below top (Faults fault) = base_turn P stack s.memory ≡ Ends (end_of fault)

  enter_holds : (s : State) (since row : ℕ) (stack : Stack) (below : List Waiting) → Here s since row stack below →
      (look : Option Look) (f : FunId) (args : List ℤ) (caller : Paused) (left : List Waiting) →
      base_turn P stack s.memory ≡ Goes [] (record { stack = record { top = entry_frame P f args; waiting = left }; memory = s.memory }) →
      PausedIs P codes caller left → Takes P.functions f (length args) →
      versions_waiting (caller ∷ s.stack.waiting) ≡ versions_on_top s.stack.top + versions_waiting s.stack.waiting →
      Holds P codes call (enters s caller (entered P codes look f args))
  unfolding enters ran over version_entry versions_on_top counted
  enter_holds s since row stack below h look f args caller left turn is_paused takes versions =
      let entry : Stack = record { top = entry_frame P f args; waiting = [] } in
      let run' = run_segment P call s.base_turns s.printed stack below s.memory
      (Goes [] (record { stack = record { top = entry_frame P f args; waiting = left }; memory = s.memory })) h.run turn in
      let waiting' : PausedAre P codes (caller ∷ s.stack.waiting) (left ++ below) = (left, below, is_paused, h.waiting, refl) in
      let en0 = h.counts.entries in
      let en : s.entries + 1 ≤ s.base_turns + 1 + 1 = omega arith in
      by_entry P codes look f args (λ o. Holds P codes call (enters s caller o)) tt
      (on_stands s since row stack below h (record { top = InBase (entry_frame P f args); waiting = caller ∷ s.stack.waiting }) s.memory []
      (s.entries + 1) entry (left ++ below) run' waiting' (omega arith) (omega arith) refl)
      (λ offset code found.
      let regs' = entry_regs code.regs args in
      let v : VersionFrame = record { function = f; offset = offset; label = code.entry; regs = regs' } in
      let now : Stacked = record { top = InVersion v; waiting = caller ∷ s.stack.waiting } in
      let r : Resumes P code code.entry regs' entry = (sound f offset code found).entry args takes (no_context args) in
      let s' : State = counted s now s.memory [] (s.entries + 1) in
      let backs = own_backs s' (left ++ below) regs' code code.entry entry run' en r in
      let run2 = run_same P call (s.base_turns + 1) (s.printed ++ []) entry (frames_of P r.arrives.place.point regs')
      (left ++ below) s.memory run' r.arrives.same in
      on_stands s since row stack below h now s.memory [] (s.entries + 1) (frames_of P r.arrives.place.point regs') (left ++ below) run2 waiting' (omega arith)
      (omega arith)
      (top_at s' (left ++ below) v code entry found r.arrives backs))

  by_holds : (s : State) (since row : ℕ) (stack : Stack) (below : List Waiting) → Here s since row stack below → (look : Option Look) (top : Active) →
      ((next : Label) (regs : List ℤ) → versions_on_top (moved_to top next regs) ≡ versions_on_top s.stack.top) →
      ((next : Label) (dest : Reg) → versions_waiting (paused top next dest ∷ s.stack.waiting)
      ≡ versions_on_top s.stack.top + versions_waiting s.stack.waiting) → (e : Effect) → Owes s stack below top e →
      Holds P codes call (turn_by P codes look s top e)
  unfolding turn_by ran
  by_holds s since row stack below h look top same_top same_waiting (On next regs m printed) o =
      let run' = run_segment P call s.base_turns s.printed stack below s.memory (Goes printed (record { stack = o.0; memory = m })) h.run o.1 in
      let l = same_top next regs in
      let run2 = run_same P call (s.base_turns + 1) (s.printed ++ printed) o.0 o.2 below m run' o.3 in
      on_stands s since row stack below h (record { top = moved_to top next regs; waiting = s.stack.waiting }) m printed s.entries o.2 below run2 h.waiting
      (omega arith) (omega arith) (o.4 run')
  by_holds s since row stack below h look top same_top same_waiting (Calls dest f args next) o =
      enter_holds s since row stack below h look f args (paused top next dest) o.0 o.1 o.2 o.3 (same_waiting next dest)
  by_holds s since row stack below h look top same_top same_waiting (Returns value) o =
      returns_holds s since row stack below h value s.stack.waiting below h.waiting (omega arith)
      (run_segment P call s.base_turns s.printed stack below s.memory (Ends (Returned value)) h.run o)
  by_holds s since row stack below h look top same_top same_waiting (Faults fault) o =
      let run' = run_segment P call s.base_turns s.printed stack below s.memory (Ends (end_of fault)) h.run o in
      ends_holds s since row stack below h (end_of fault) (fault_freely fault) s.stack
      (subst (After P call (s.base_turns + 1) s.printed) (lift_fault fault below s.memory) run')

  -- ---- a base frame's turn

  owes_base : (s : State) (below : List Waiting) (fr : Frame) (e : Effect) → base_turn P (record { top = fr; waiting = [] }) s.memory
      ≡ machine.turn_by P e (record { top = fr; waiting = [] }) s.memory → TakesOf P e → Owes s (record { top = fr; waiting = [] }) below (InBase fr) e
  unfolding machine.turn_by give moved_to paused
  owes_base s below fr (On next regs m printed) t takes =
      let went : Stack = record { top = record { function = fr.function; label = next; regs = regs }; waiting = [] } in
      (went, t, went, same_refl P went, λ _. refl)
  owes_base s below fr (Calls dest f args next) t takes = (waits fr next dest ∷ [], t, refl, takes)
  owes_base s below fr (Returns value) t takes = t
  owes_base s below fr (Faults fault) t takes = t

  base_holds : (s : State) (since row : ℕ) (below : List Waiting) (look : Option Look) (fr : Frame) → s.stack.top ≡ InBase fr →
      Here s since row (record { top = fr; waiting = [] }) below → (i : Option Instr) → instr_at P fr.function fr.label ≡ i →
      Holds P codes call (turn_in_base P codes look s fr i)
  unfolding turn_in_base base_turn turn_at versions_on_top versions_waiting moved_to paused
  base_holds s since row below look fr top h None e = tt
  base_holds s since row below look fr top h (Some i) e =
      let stack : Stack = record { top = fr; waiting = [] } in
      let none : versions_on_top s.stack.top ≡ 0 = ap versions_on_top top in
      by_holds s since row stack below h look (InBase fr) (λ next regs. sym none) (λ next dest. omega arith) (effect i fr s.memory)
      (owes_base s below fr (effect i fr s.memory) (ap (λ o. turn_at P o stack s.memory) e) (effect_takes P formed fr s.memory i e))

  -- ---- a version's turn

  on_backs : (s : State) (below : List Waiting) (v : VersionFrame) (p : IsPlaced codes v) (next : Label) (regs' m' printed : List ℤ) →
      RunAt P call s.base_turns s.printed (over (frames_of P p.place.point v.regs) below) s.memory → s.entries ≤ s.base_turns + 1 →
      ((pair : Back) → Contains p.place.backs pair → BackStands P call s below v.regs pair) →
      version_effect p.place.instr v.regs s.memory ≡ Plain (On next regs' m' printed) →
      (step : StepsOn P p.code p.place v.regs s.memory next regs' m' printed) → (now : Stacked) →
      RunAt P call (s.base_turns + 1) (s.printed ++ printed) (over step.stack below) m' → (pair : Back) → Contains step.arrives.place.backs pair →
      BackStands P call (counted s now m' printed s.entries) below regs' pair
  unfolding counted
  on_backs s below v p next regs' m' printed run en backs e step now run' pair i =
      let s' : State = counted s now m' printed s.entries in
      let en' : s.entries ≤ s.base_turns + 1 + 1 = omega arith in
      ⊎_elim (λ own. own_back P call s' below step.arrives.place regs' step.stack pair run' step.arrives.same en' own)
      (λ carried.
      let k = silent_keeps p.place.instr v.regs s.memory next regs' m' printed carried.instr e in
      subst (λ r. BackStands P call s' below r pair) k.0
      (carried_back P call s below p.place v.regs m' printed now s.entries pair carried run k.1 k.2 (omega arith)
      (backs (pair_of carried.before pair.point) carried.carried)))
      (step.backs pair i)

  owes_version : (s : State) (below : List Waiting) (v : VersionFrame) (p : IsPlaced codes v) →
      RunAt P call s.base_turns s.printed (over (frames_of P p.place.point v.regs) below) s.memory → s.entries ≤ s.base_turns + 1 →
      ((pair : Back) → Contains p.place.backs pair → BackStands P call s below v.regs pair) → (e : Effect) →
      version_effect p.place.instr v.regs s.memory ≡ Plain e → SoundEffect P p.code p.place v.regs s.memory (Plain e) → CallsBy p.place.instr v.regs e →
      Owes s (frames_of P p.place.point v.regs) below (InVersion v) e
  unfolding counted moved_to paused
  owes_version s below v p run en backs (On next regs' m' printed) e step by =
      let v' : VersionFrame = record { function = v.function; offset = v.offset; label = next; regs = regs' } in
      let now : Stacked = record { top = InVersion v'; waiting = s.stack.waiting } in (
        step.stack,
        step.turn,
        frames_of P step.arrives.place.point regs',
        step.arrives.same,
        λ run'. top_at
            (counted s now m' printed s.entries) below v' p.code step.stack p.found step.arrives
            (on_backs s below v p next regs' m' printed run en backs e step now run'),
      )
  owes_version s below v p run en backs (Calls dest f args next) e step by =
      let frames = frames_of P p.place.point v.regs in
      let base = step.call in
      let takes = subst (λ k. Takes P.functions f k) (sym (length-map base.operands (operand_value frames.top.regs)) ∙ ap length base.values)
      (fine_at P formed frames.top.function frames.top.label (instr.Call base.dest f base.operands base.next) base.at).1 in (
        left_waiting P frames,
        call_turn P frames f args base s.memory,
        record { placed = p; dest = dest; function = f; args = by.0; next = next; instr = by.1; same = refl },
        takes,
      )
  owes_version s below v p run en backs (Returns value) e step by = step
  owes_version s below v p run en backs (Faults fault) e step by = step

  plain_holds : (s : State) (since row : ℕ) (below : List Waiting) (look : Option Look) (v : VersionFrame) (p : IsPlaced codes v) → s.stack.top ≡ InVersion v →
      Here s since row (frames_of P p.place.point v.regs) below → ((pair : Back) → Contains p.place.backs pair → BackStands P call s below v.regs pair) →
      (e : Effect) → version_effect p.place.instr v.regs s.memory ≡ Plain e → SoundEffect P p.code p.place v.regs s.memory (Plain e) →
      CallsBy p.place.instr v.regs e → Holds P codes call (turn_by P codes look s (InVersion v) e)
  unfolding versions_on_top versions_waiting moved_to paused
  plain_holds s since row below look v p top h backs e eq step by =
      let one : versions_on_top s.stack.top ≡ 1 = ap versions_on_top top in
      by_holds s since row (frames_of P p.place.point v.regs) below h look (InVersion v) (λ next regs. sym one) (λ next dest. omega arith) e
      (owes_version s below v p h.run h.counts.entries backs e eq step by)

  -- an Assume or Anchor goes on
  pass_back : (s : State) (below : List Waiting) (v : VersionFrame) (next : Label) (pair : Back) → BackStands P call s below v.regs pair →
      BackStands P call (passed s v next) below v.regs pair
  unfolding passed
  pass_back s below v next pair b = record { within = b.within; run = b.run; silent = b.silent; entries = b.entries }

  pass_holds : (s : State) (since row : ℕ) (below : List Waiting) (v : VersionFrame) (p : IsPlaced codes v) → s.stack.top ≡ InVersion v →
      Here s since row (frames_of P p.place.point v.regs) below → ((pair : Back) → Contains p.place.backs pair → BackStands P call s below v.regs pair) →
      (next : Label) → guard_next p.place.instr ≡ Some next → RowWithin p.code row v.label → Passes P p.code p.place v.regs next →
      Stands P codes call (passed s v next)
  unfolding passed moved_to
  pass_holds s since row below v p top h backs next g ahead step =
      let a = row_ahead p.code row v.label p.place next p.at g ahead in
      let counts = counts_pass s since a.0 v next top (subst (λ r. CountsStand s since r) a.1 h.counts) in
      let frames = frames_of P p.place.point v.regs in
      let v' : VersionFrame = record { function = v.function; offset = v.offset; label = next; regs = v.regs } in
      let placed : IsPlaced codes v' =
      record { code = p.code; place = step.arrives.place; found = p.found; at = step.arrives.at; admits = step.arrives.admits } in
      record {
        stack = frames_of P step.arrives.place.point v.regs;
        below = below;
        since = suc since;
        row = a.0;
        run = run_same P call s.base_turns s.printed frames (frames_of P step.arrives.place.point v.regs) below s.memory h.run step.arrives.same;
        top = record {
          placed = placed;
          same = refl;
          backs = λ pair i. ⊎_elim
              (λ own. own_back P call (passed s v next) below step.arrives.place v.regs frames pair h.run step.arrives.same h.counts.entries own)
              (λ c. pass_back s below v next pair (backs pair c)) (step.backs pair i);
          ahead = a.2;
        };
        waiting = h.waiting;
        counts = counts;
        notes = h.notes;
      }

  -- an Assume fails
  base_waiting : (frames : List Waiting) (others : List Paused) (behind : List Waiting) → PausedAre P codes others behind →
      PausedAre P codes (map BaseWaits frames ++ others) (frames ++ behind)
  base_waiting [] others behind h = h
  base_waiting (w ∷ frames) others behind h = (w ∷ [], frames ++ behind, refl, base_waiting frames others behind h, refl)

  notes_keep : (notes : List Note) (note : Note) (b : Bool) → NotesStand P call notes → NoteStands P call note →
      NotesStand P call (if b then notes ++ note ∷ [] else notes)
  notes_keep notes note true h hn = λ x i. ⊎_elim (λ old. h x old) (λ e. subst (NoteStands P call) e hn) (Contains-push_cases notes note x i)
  notes_keep notes note false h hn = h

  fail_holds : (s : State) (since row : ℕ) (below : List Waiting) (v : VersionFrame) (p : IsPlaced codes v) → s.stack.top ≡ InVersion v →
      Here s since row (frames_of P p.place.point v.regs) below → (back : ℕ) (target : Point) (next : Label) →
      BackStands P call s below v.regs (pair_of back target) → back ≤ 4 → guard_next p.place.instr ≡ Some next → RowWithin p.code row v.label →
      Stands P codes call (rebuilt s back (frames_of P target v.regs))
  unfolding rebuilt over keep_note
  fail_holds s since row below v p top h back target next b four g ahead =
      let a = row_ahead p.code row v.label p.place next p.at g ahead in
      let frames = frames_of P target v.regs in
      let counts = counts_fail s since a.0 v back frames top four b.within b.entries (subst (λ r. CountsStand s since r) a.1 h.counts) in
      let note : Note = record { turn = s.base_turns - back; top = frames.top; waiting = frames.waiting } in
      let stands : NoteStands P call note = record { printed = s.printed; memory = s.memory; below = below; run = b.run } in
      record {
        stack = record { top = frames.top; waiting = [] };
        below = frames.waiting ++ below;
        since = suc since;
        row = 0;
        run = b.run;
        top = refl;
        waiting = base_waiting frames.waiting s.stack.waiting below h.waiting;
        counts = counts;
        notes = notes_keep s.notes note (nat_lt (length s.notes) 256) h.notes stands;
      }

  -- the number of a pair is at most 4
  few_turns : (v : VersionFrame) (p : IsPlaced codes v) (pair : Back) → Contains p.place.backs pair → pair.turns ≤ 4
  few_turns v p pair i =
      let named = (sound v.function v.offset p.code p.found).named in
      let fine : IsPlaceFine P p.code.regs (length p.code.places) p.place =
      all_at (IsPlaceFine P p.code.regs (length p.code.places)) p.code.places v.label.0 p.place named.places p.at in
      (All-contains (IsBackFine P p.code.regs) p.place.backs pair fine.backs i).few_turns

  version_by_holds : (s : State) (since row : ℕ) (below : List Waiting) (look : Option Look) (v : VersionFrame) (p : IsPlaced codes v) →
      s.stack.top ≡ InVersion v → Here s since row (frames_of P p.place.point v.regs) below →
      ((pair : Back) → Contains p.place.backs pair → BackStands P call s below v.regs pair) → RowWithin p.code row v.label → (e : VersionEffect) →
      version_effect p.place.instr v.regs s.memory ≡ e → SoundEffect P p.code p.place v.regs s.memory e → VersionCallsBy p.place.instr v.regs e →
      GuardedBy p.place.instr e → Holds P codes call (version_turn_by P codes look s v e)
  unfolding version_turn_by
  version_by_holds s since row below look v p top h backs ahead (Plain e) eq step by g =
      plain_holds s since row below look v p top h backs e eq step by
  version_by_holds s since row below look v p top h backs ahead (Guarded true back target next) eq step by g =
      pass_holds s since row below v p top h backs next g ahead (step.passes refl)
  version_by_holds s since row below look v p top h backs ahead (Guarded false back target next) eq step by g =
      fail_holds s since row below v p top h back target next (backs (pair_of back target) step.target_in) (few_turns v p (pair_of back target) step.target_in)
      g ahead

  version_holds : (s : State) (since row : ℕ) (below : List Waiting) (look : Option Look) (v : VersionFrame) (stack : Stack) → s.stack.top ≡ InVersion v →
      Here s since row stack below → VersionTop P codes call s below row v stack → Holds P codes call (turn_in_version P codes look s v (place_in codes v))
  unfolding turn_in_version
  version_holds s since row below look v stack top h t =
      let p = t.placed in
      let h' : Here s since row (frames_of P p.place.point v.regs) below = subst (λ x. Here s since row x below) t.same h in
      let step = (sound v.function v.offset p.code p.found).places v.label p.place p.at v.regs s.memory p.admits in
      subst (λ o. Holds P codes call (turn_in_version P codes look s v o)) (sym (place_found codes v p))
      (version_by_holds s since row below look v p top h' t.backs t.ahead (version_effect p.place.instr v.regs s.memory) refl step
      (calls_by p.place.instr v.regs s.memory) (guarded_by p.place.instr v.regs s.memory))

  top_holds : (s : State) (since row : ℕ) (stack : Stack) (below : List Waiting) (look : Option Look) (a : Active) → s.stack.top ≡ a →
      Here s since row stack below → TopStands P codes call s below row a stack → Holds P codes call (turn_of P codes look s a)
  unfolding turn_of
  top_holds s since row stack below look (InBase fr) top h t =
      base_holds s since row below look fr top (subst (λ x. Here s since row x below) t h) (instr_at P fr.function fr.label) refl
  top_holds s since row stack below look (InVersion v) top h t = version_holds s since row below look v stack top h t

  -- a turn keeps that the state stands for the run, or ends the run
  pub turn_holds : (look : Option Look) (s : State) → Stands P codes call s → Holds P codes call (version_turn P codes look s)
  unfolding version_turn
  turn_holds look s d =
      let h : Here s d.since d.row d.stack d.below = record { run = d.run; waiting = d.waiting; counts = d.counts; notes = d.notes } in
      top_holds s d.since d.row d.stack d.below look s.stack.top refl h d.top

-- the same, over the code that there is by then
pub later_turn_holds : (P : Program) (codes later : Codes) (call : Begun) (look : Option Look) (s : State) → IsWellFormed P → Grows codes later →
    SoundCodes P later → Stands P codes call s → Holds P later call (version_turn P later look s)
later_turn_holds P codes later call look s formed g sound d =
    turn_holds P later call formed sound look s (stands_grows P call codes later g s d)
