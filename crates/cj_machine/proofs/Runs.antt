-- The versioned run, turn by turn, over the code and the trail so far.
use Rattle.std.proofs.Common.{◌≡◌, ◌≢◌, ℕ, zero, suc, ◌+◌, ◌-◌, ◌≤◌, eq-eqb, append-nil, true, false, List, [], ◌∷◌, ◌++◌, length, Option, Some, None, refl}
use Rattle.std.proofs.Common.{sym, ap, ◌∙◌, subst, add-one, inl, inr, ⊎_elim, arith}
use Rattle.std.specs.Prelude.{ℤ, slice_get, ⊤, if◌then◌else◌}
use Rattle.cj_ir.specs.Program.{instr_at}
use Rattle.cj_ir.specs.declared.language.Program.{Program}
use Rattle.cj_ir.specs.declared.language.Instr.{Instr}
use Rattle.cj_base.specs.declared.machine.Frame.{Frame}
use Rattle.cj_base.specs.declared.machine.End.{End}
use Rattle.cj_base.specs.declared.machine.End.TheVariants.{TurnLimit}
use Rattle.cj_base.specs.Machine.{Effect, On, Calls, Returns, Faults, effect}
use Rattle.cj_base.specs.Run.{Begun}
use Rattle.cj_draft.specs.declared.instructions.VInstr.{VInstr}
use Rattle.cj_draft.specs.declared.instructions.VInstr.TheVariants.{Nop, Op, Move, Cond, Call, Return, Print, Load, Store, Fail, Assume, Anchor}
use Rattle.cj_draft.specs.declared.code.Place.{Place}
use Rattle.cj_draft.specs.Effects.{VersionEffect, Plain, Guarded, version_effect}
use Rattle.cj_calls.specs.declared.report.Look.{Look}
use Rattle.cj_calls.specs.declared.report.Report.{Report}
use Rattle.cj_activations.specs.Activations.{VersionFrame, Active, InBase, InVersion, Paused, BaseWaits, VersionWaits}
use Rattle.cj_machine.specs.Versions.{State, Codes, Progress, Continues, Finishes, Undefined, place_in, paused, entered, counted, enters, resumed_by}
use Rattle.cj_machine.specs.Versions.{resumed_at, returns_to, turn_by, passed, rebuilt, version_turn_by, turn_in_base, turn_in_version, turn_of, version_turn}
use Rattle.cj_machine.specs.VersionRuns.{first_state, begins_in, version_start, one_turn_more, version_run, report_of, if_used, report_at, version_report}
use Rattle.cj_machine.specs.CodeMaps.{Grows}
use Rattle.cj_machine.proofs.Growing.{Kept, IsKept, look_kept, entered_kept, turn_kept}

-- ---- each turn counts one

abbrev pub CountsOne : ℕ → Progress → Type 0
CountsOne n (Continues s) = s.turns ≡ n + 1
CountsOne n (Finishes end s) = s.turns ≡ n + 1
CountsOne n Undefined = ⊤

resumed_by_counts : (s : State) (others : List Paused) (v : VersionFrame) (value : ℤ) (i : VInstr) → CountsOne s.turns (resumed_by s others v value i)
unfolding resumed_by counted
resumed_by_counts s others v value (Call dest f args next) = refl
resumed_by_counts s others v value (Nop next) = tt
resumed_by_counts s others v value (Op dest e next) = tt
resumed_by_counts s others v value (Move pairs next) = tt
resumed_by_counts s others v value (Cond test then_to else_to) = tt
resumed_by_counts s others v value (Return x) = tt
resumed_by_counts s others v value (Print x next) = tt
resumed_by_counts s others v value (Load dest a next) = tt
resumed_by_counts s others v value (Store a x next) = tt
resumed_by_counts s others v value (Fail f l) = tt
resumed_by_counts s others v value (Assume guards back target next) = tt
resumed_by_counts s others v value (Anchor back target next) = tt

resumed_at_counts : (s : State) (others : List Paused) (v : VersionFrame) (value : ℤ) (o : Option Place) → CountsOne s.turns (resumed_at s others v value o)
unfolding resumed_at
resumed_at_counts s others v value None = tt
resumed_at_counts s others v value (Some place) = resumed_by_counts s others v value place.instr

returns_counts : (codes : Codes) (s : State) (value : ℤ) (callers : List Paused) → CountsOne s.turns (returns_to codes s value callers)
unfolding returns_to counted
returns_counts codes s value [] = refl
returns_counts codes s value (BaseWaits w ∷ others) = refl
returns_counts codes s value (VersionWaits v ∷ others) = resumed_at_counts s others v value (place_in codes v)

enters_counts : (s : State) (caller : Paused) (o : Option Active) → CountsOne s.turns (enters s caller o)
unfolding enters counted
enters_counts s caller None = tt
enters_counts s caller (Some top) = refl

by_counts : (P : Program) (codes : Codes) (look : Option Look) (s : State) (top : Active) (e : Effect) → CountsOne s.turns (turn_by P codes look s top e)
unfolding turn_by counted
by_counts P codes look s top (On next regs m printed) = refl
by_counts P codes look s top (Calls dest f args next) = enters_counts s (paused top next dest) (entered P codes look f args)
by_counts P codes look s top (Returns value) = returns_counts codes s value s.stack.waiting
by_counts P codes look s top (Faults fault) = refl

version_by_counts : (P : Program) (codes : Codes) (look : Option Look) (s : State) (v : VersionFrame) (e : VersionEffect) →
    CountsOne s.turns (version_turn_by P codes look s v e)
unfolding version_turn_by passed rebuilt
version_by_counts P codes look s v (Plain e) = by_counts P codes look s (InVersion v) e
version_by_counts P codes look s v (Guarded true back target next) = refl
version_by_counts P codes look s v (Guarded false back target next) = refl

base_counts : (P : Program) (codes : Codes) (look : Option Look) (s : State) (fr : Frame) (o : Option Instr) →
    CountsOne s.turns (turn_in_base P codes look s fr o)
unfolding turn_in_base
base_counts P codes look s fr None = tt
base_counts P codes look s fr (Some i) = by_counts P codes look s (InBase fr) (effect i fr s.memory)

version_counts : (P : Program) (codes : Codes) (look : Option Look) (s : State) (v : VersionFrame) (o : Option Place) →
    CountsOne s.turns (turn_in_version P codes look s v o)
unfolding turn_in_version
version_counts P codes look s v None = tt
version_counts P codes look s v (Some place) = version_by_counts P codes look s v (version_effect place.instr v.regs s.memory)

top_counts : (P : Program) (codes : Codes) (look : Option Look) (s : State) (a : Active) → CountsOne s.turns (turn_of P codes look s a)
unfolding turn_of
top_counts P codes look s (InBase fr) = base_counts P codes look s fr (instr_at P fr.function fr.label)
top_counts P codes look s (InVersion v) = version_counts P codes look s v (place_in codes v)

-- a turn counts one, also where it ends the run
pub turn_counts : (P : Program) (codes : Codes) (look : Option Look) (s : State) → CountsOne s.turns (version_turn P codes look s)
unfolding version_turn
turn_counts P codes look s = top_counts P codes look s s.stack.top

-- the run after n turns has made n, or it ended with an earlier one
abbrev pub HasTurns : ℕ → Progress → Type 0
HasTurns n (Continues s) = s.turns ≡ n
HasTurns n (Finishes end s) = s.turns ≤ n
HasTurns n Undefined = ⊤

begins_at_0 : (call : Begun) (o : Option Active) → HasTurns 0 (begins_in call o)
unfolding begins_in first_state
begins_at_0 call None = tt
begins_at_0 call (Some top) = refl

one_counted : (n turns : ℕ) (o : Progress) → turns ≡ n → CountsOne turns o → HasTurns (suc n) o
one_counted n turns (Continues s) e c = omega arith
one_counted n turns (Finishes end s) e c = omega arith
one_counted n turns Undefined e c = tt

pub one_more_counted : (P : Program) (codes : Codes) (trail : List Look) (n : ℕ) (o : Progress) → HasTurns n o →
    HasTurns (suc n) (one_turn_more P codes trail o)
unfolding one_turn_more
one_more_counted P codes trail n (Continues s) h =
    one_counted n s.turns (version_turn P codes (slice_get trail s.entries) s) h (turn_counts P codes (slice_get trail s.entries) s)
one_more_counted P codes trail n (Finishes end s) h = omega arith
one_more_counted P codes trail n Undefined h = tt

pub run_has_turns : (P : Program) (codes : Codes) (trail : List Look) (call : Begun) (n : ℕ) → HasTurns n (version_run P codes trail call n)
unfolding version_run version_start
run_has_turns P codes trail call zero = begins_at_0 call (entered P codes (slice_get trail 0) call.function call.args)
run_has_turns P codes trail call (suc n) =
    one_more_counted P codes trail n (version_run P codes trail call n) (run_has_turns P codes trail call n)

-- a run that goes on after n turns is in a state with n turns
pub run_turns : (P : Program) (codes : Codes) (trail : List Look) (call : Begun) (n : ℕ) (s : State) → version_run P codes trail call n ≡ Continues s →
    s.turns ≡ n
run_turns P codes trail call n s e = subst (HasTurns n) e (run_has_turns P codes trail call n)

-- ---- later code and a longer trail

begins_kept : (call : Begun) (o later : Option Active) → IsKept o later → Kept (begins_in call o) (begins_in call later)
unfolding begins_in
begins_kept call o later kept =
    ⊎_elim (λ none. inl (ap (begins_in call) none)) (λ same. inr (ap (begins_in call) same)) kept

module _ (P : Program) (codes later : Codes) (g : Grows codes later) (trail more : List Look) where
  next_kept : (o : Progress) → Kept (one_turn_more P codes trail o) (one_turn_more P later (trail ++ more) o)
  unfolding one_turn_more
  next_kept (Continues s) =
      turn_kept P codes later g (slice_get trail s.entries) (slice_get (trail ++ more) s.entries) (look_kept trail more s.entries) s
  next_kept (Finishes end s) = inr refl
  next_kept Undefined = inl refl

  pub one_more_kept : (o o' : Progress) → Kept o o' → Kept (one_turn_more P codes trail o) (one_turn_more P later (trail ++ more) o')
  unfolding one_turn_more
  one_more_kept o o' kept =
      ⊎_elim (λ none. inl (ap (one_turn_more P codes trail) none))
      (λ same. ⊎_elim (λ none. inl none) (λ k. inr (k ∙ ap (one_turn_more P later (trail ++ more)) same)) (next_kept o)) kept

module _ (P : Program) (call : Begun) (codes later : Codes) (g : Grows codes later) (trail more : List Look) where
  -- a run that is defined is the same over more code and a longer trail
  pub run_kept : (n : ℕ) → Kept (version_run P codes trail call n) (version_run P later (trail ++ more) call n)
  unfolding version_run version_start
  run_kept zero =
      begins_kept call (entered P codes (slice_get trail 0) call.function call.args) (entered P later (slice_get (trail ++ more) 0) call.function call.args)
      (entered_kept P codes later g (slice_get trail 0) (slice_get (trail ++ more) 0) (look_kept trail more 0) call.function call.args)
  run_kept (suc n) = one_more_kept P codes later g trail more (version_run P codes trail call n) (version_run P later (trail ++ more) call n) (run_kept n)

  pub run_later : (n : ℕ) (o : Progress) → o ≢ Undefined → version_run P codes trail call n ≡ o → version_run P later (trail ++ more) call n ≡ o
  run_later n o defined e = ⊎_elim (λ none. absurd (defined (sym e ∙ none))) (λ same. sym same ∙ e) (run_kept n)

pub continues_defined : (s : State) → Continues s ≢ Undefined
continues_defined s = λ e. cc

-- ---- from turn to turn

-- the run after the next turn, over the code and the trail that there are after it
pub run_next : (P : Program) (call : Begun) (codes later : Codes) (trail more : List Look) (n : ℕ) (s : State) (o : Progress) → Grows codes later →
    version_run P codes trail call n ≡ Continues s → version_turn P later (slice_get (trail ++ more) s.entries) s ≡ o →
    version_run P later (trail ++ more) call (n + 1) ≡ o
unfolding version_run one_turn_more
run_next P call codes later trail more n s o g before turn =
    rw add-one (ap (one_turn_more P later (trail ++ more)) (run_later P call codes later g trail more n (Continues s) (continues_defined s) before) ∙ turn)

-- a run that has ended stays so
finished_more : (P : Program) (codes : Codes) (trail : List Look) (call : Begun) (n d : ℕ) (end : End) (s : State) →
    version_run P codes trail call n ≡ Finishes end s → version_run P codes trail call (d + n) ≡ Finishes end s
unfolding version_run one_turn_more
finished_more P codes trail call n zero end s e = let same : 0 + n ≡ n = omega arith in rw same e
finished_more P codes trail call n (suc d) end s e =
    let same : suc d + n ≡ suc (d + n) = omega arith in
    rw same (ap (one_turn_more P codes trail) (finished_more P codes trail call n d end s e))

pub finished_stays : (P : Program) (codes : Codes) (trail : List Look) (call : Begun) (n m : ℕ) (end : End) (s : State) →
    version_run P codes trail call n ≡ Finishes end s → n ≤ m → version_run P codes trail call m ≡ Finishes end s
finished_stays P codes trail call n m end s e le =
    let same : m - n + n ≡ m = omega arith in
    rw same at (finished_more P codes trail call n (m - n) end s e)

-- ---- the report

pub used_whole : (trail : List Look) (end : End) (s : State) → s.entries ≡ length trail → if_used trail end s ≡ Some (report_of trail end s)
unfolding if_used
used_whole trail end s used =
    ap (λ b. if b then Some (report_of trail end s) else None) (eq-eqb s.entries (length trail) used)

-- where a turn ended the run within the limit
pub report_at_end : (P : Program) (codes : Codes) (trail : List Look) (call : Begun) (n : ℕ) (end : End) (s : State) →
    version_run P codes trail call n ≡ Finishes end s → n ≤ call.limit → s.entries ≡ length trail →
    version_report P codes trail call ≡ Some (report_of trail end s)
unfolding version_report report_at
report_at_end P codes trail call n end s e le used =
    ap (report_at trail) (finished_stays P codes trail call n call.limit end s e le) ∙ used_whole trail end s used

-- where as many turns were made as the limit says
pub report_at_limit : (P : Program) (codes : Codes) (trail : List Look) (call : Begun) (n : ℕ) (s : State) → version_run P codes trail call n ≡ Continues s →
    n ≡ call.limit → s.entries ≡ length trail → version_report P codes trail call ≡ Some (report_of trail TurnLimit s)
unfolding version_report report_at
report_at_limit P codes trail call n s e limit used =
    let at : version_run P codes trail call call.limit ≡ Continues s = subst (λ k. version_run P codes trail call k ≡ Continues s) limit e in
    ap (report_at trail) at ∙ used_whole trail TurnLimit s used

-- more code keeps a report
pub report_kept : (P : Program) (call : Begun) (codes later : Codes) (trail : List Look) (r : Report) → Grows codes later →
    version_report P codes trail call ≡ Some r → version_report P later trail call ≡ Some r
unfolding version_report report_at
report_kept P call codes later trail r g e =
    let whole : trail ++ [] ≡ trail = append-nil trail in
    let kept = run_kept P call codes later g trail [] call.limit in
    let kept' : Kept (version_run P codes trail call call.limit) (version_run P later trail call call.limit) =
    subst (λ t. Kept (version_run P codes trail call call.limit) (version_run P later t call call.limit)) whole kept in
    ⊎_elim
    (λ none.
    let nothing : None ≡ Some r = sym (ap (report_at trail) none) ∙ e in
    let never : ⊥ = cc in
    absurd never)
    (λ same. sym (ap (report_at trail) same) ∙ e) kept'
