-- What is left to do after an instruction: entries and returns.
use Rattle.std.proofs.Common.{◌≡◌, ◌≢◌, ◌∙◌, refl, sym, ap, subst, ℕ, ◌+◌, ◌<◌, List, [], ◌∷◌, ◌++◌, length, Option, None, Some, ℤ, length-append, append-nil}
use Rattle.std.specs.Prelude.{slice_get}
use Rattle.cj_ir.proofs.ListReads.{get-append_end}
use Rattle.cj_ir.specs.Program.{reg_count}
use Rattle.cj_ir.specs.declared.language.FunId.{FunId}
use Rattle.cj_ir.specs.declared.language.Label.{Label}
use Rattle.cj_ir.specs.declared.language.Reg.{Reg}
use Rattle.cj_ir.specs.declared.language.Program.{Program}
use Rattle.cj_base.specs.Machine.{Calls, entry_regs, entry_frame, resumed}
use Rattle.cj_draft.specs.declared.code.Code.{Code}
use Rattle.cj_calls.specs.declared.report.Look.{Look}
use Rattle.cj_calls.specs.declared.report.Note.{Note}
use Rattle.cj_ir.specs.declared.script.ScriptCall.{ScriptCall}
use Rattle.cj_engine.specs.Engines.{begun_with}
use Rattle.cj_machine.specs.VersionRuns.{version_start, begins_in, first_state}
use Rattle.cj_activations.specs.declared.windows.Position.{Position}
use Rattle.cj_activations.specs.declared.windows.Position.TheVariants.{Base, Version}
use Rattle.cj_activations.specs.declared.windows.Waits.TheVariants as waits
use Rattle.cj_activations.specs.Activations.{Active, InBase, InVersion, Paused, BaseWaits, VersionWaits, Stacked}
use Rattle.cj_activations.specs.Windows.{active_at}
use Rattle.cj_activations.specs.Changes.{innermost, waits_of, HasDest, called, entered, returned, returned_to}
use Rattle.cj_activations.specs.Changes as changes
use Rattle.cj_machine.specs.Versions as versions
use Rattle.cj_machine.specs.Versions.{State, Codes, Progress, Continues, Finishes, counted, turn_by, returns_to, version_entry, moved_to}
use Rattle.cj_machine.specs.Stepping.{Turn, IsStep, CanTake, IsCaller}
use Rattle.cj_machine.specs.declared.steps.Step.TheVariants as step
use Rattle.cj_base.specs.declared.machine.End.TheVariants.{Returned}
use Rattle.cj_machine.proofs.Arms.{returns_last, enters_base, enters_version, turn_enters, returns_to_version}

-- ---- entries

pub base_entered : (P : Program) (codes : Codes) (f : FunId) (offset count : ℕ) (args : List ℤ) → offset ≡ 0 → reg_count P f ≡ count
    → versions.entered P codes (Some (record { function = f; offset = offset })) f args ≡ Some (active_at (Base f (record { 0 = 0 })) (entry_regs count args))
unfolding active_at entry_frame
base_entered P codes f offset count args none same =
    enters_base P codes _ (record { function = f; offset = offset }) f args refl refl none
    ∙ ap (λ n. Some (InBase (record { function = f; label = record { 0 = 0 }; regs = entry_regs n args }))) same

pub version_entered : (P : Program) (codes : Codes) (f : FunId) (offset : ℕ) (code : Code) (args : List ℤ) → offset ≢ 0 → codes f offset ≡ Some code
    → versions.entered P codes (Some (record { function = f; offset = offset })) f args
    ≡ Some (active_at (Version f offset code.entry) (entry_regs code.regs args))
unfolding active_at version_entry
version_entered P codes f offset code args not found =
    enters_version P codes _ (record { function = f; offset = offset }) f args code refl refl not found

paused_same : (a : Active) (dest : Reg) (next : Label) → versions.paused a next dest ≡ changes.paused a dest next
unfolding versions.paused changes.paused
paused_same (InBase fr) dest next = refl
paused_same (InVersion v) dest next = refl

pub call_made : (P : Program) (codes : Codes) (s : State) (looks now_looks : List Look) (look : Look) (dest : Reg) (f : FunId) (args : List ℤ) (next : Label)
    (position : Position) (count : ℕ) (stack : Stacked)
    → now_looks ≡ looks ++ look ∷ [] → s.entries ≡ length looks
    → versions.entered P codes (Some look) f args ≡ Some (active_at position (entry_regs count args))
    → stack ≡ called s.stack dest next position count args
    → turn_by P codes (slice_get now_looks (length looks)) s s.stack.top (Calls dest f args next)
    ≡ Continues (record s { stack = stack; turns = s.turns + 1; base_turns = s.base_turns + 1; entries = length now_looks })
unfolding called entered counted
call_made P codes s looks now_looks look dest f args next position count stack more same enter is =
    let got : slice_get now_looks (length looks) ≡ Some look = ap (λ (xs : List Look). slice_get xs (length looks)) more ∙ get-append_end looks look in
    let size : length now_looks ≡ s.entries + 1 = ap length more ∙ length-append looks (look ∷ []) ∙ ap (λ n. n + 1) (sym same) in
    turn_enters P codes (slice_get now_looks (length looks)) s s.stack.top (active_at position (entry_regs count args)) dest f args next
    (ap (λ o. versions.entered P codes o f args) got ∙ enter)
    ∙ rw (paused_same, append-nil, is, size) refl

-- ---- returns

pub base_dest : (codes : Codes) (waiting : List Paused) (label : Label) (dest : Reg) → innermost waiting ≡ Some (waits.Base label dest) →
    CanTake codes waiting → HasDest dest waiting
unfolding innermost waits_of changes.paused_regs
base_dest codes [] label dest is can = let never : ⊥ = cc in absurd never
base_dest codes (BaseWaits w ∷ others) label dest is can =
    let same : w.dest ≡ dest = cc in
    subst (λ (r : Reg). r.0 < length w.regs) same can
base_dest codes (VersionWaits v ∷ others) label dest is can = let never : ⊥ = cc in absurd never

base_returned_by : (codes : Codes) (s : State) (waiting : List Paused) (label : Label) (dest : Reg) (value : ℤ) →
    innermost waiting ≡ Some (waits.Base label dest)
    → returns_to codes s value waiting ≡ Continues (counted s (returned_to waiting s.stack dest label value) s.memory [] s.entries)
unfolding innermost waits_of returns_to returned_to resumed changes.resumed
base_returned_by codes s [] label dest value is = let never : ⊥ = cc in absurd never
base_returned_by codes s (BaseWaits w ∷ others) label dest value is =
    let one : w.dest ≡ dest = cc in
    let two : w.label ≡ label = cc in
    rw (← one, ← two) refl
base_returned_by codes s (VersionWaits v ∷ others) label dest value is = let never : ⊥ = cc in absurd never

pub base_returned : (codes : Codes) (s : State) (label : Label) (dest : Reg) (value : ℤ) → innermost s.stack.waiting ≡ Some (waits.Base label dest)
    → returns_to codes s value s.stack.waiting ≡ Continues (counted s (returned s.stack dest label value) s.memory [] s.entries)
unfolding returned
base_returned codes s label dest value is = base_returned_by codes s s.stack.waiting label dest value is

-- the version that waits innermost
pub record IsInnermost (codes : Codes) (waiting : List Paused) (f : FunId) (offset : ℕ) (label : Label) : Type 0 where
  pub regs : List ℤ
  pub others : List Paused
  pub is : waiting ≡ VersionWaits (record { function = f; offset = offset; label = label; regs = regs }) ∷ others
  pub caller : IsCaller codes (record { function = f; offset = offset; label = label; regs = regs })

pub version_innermost : (codes : Codes) (waiting : List Paused) (f : FunId) (offset : ℕ) (label : Label) →
    innermost waiting ≡ Some (waits.Version f offset label) → CanTake codes waiting → IsInnermost codes waiting f offset label
unfolding innermost waits_of
version_innermost codes [] f offset label is can = let never : ⊥ = cc in absurd never
version_innermost codes (BaseWaits w ∷ others) f offset label is can = let never : ⊥ = cc in absurd never
version_innermost codes (VersionWaits v ∷ others) f offset label is can =
    let one : v.function ≡ f = cc in
    let two : v.offset ≡ offset = cc in
    let three : v.label ≡ label = cc in
    let same : v ≡ record { function = f; offset = offset; label = label; regs = v.regs } = rw (← one, ← two, ← three) refl in
    record { regs = v.regs; others = others; is = ap (λ w. VersionWaits w ∷ others) same; caller = subst (IsCaller codes) same can }

pub version_dest : (codes : Codes) (waiting : List Paused) (f : FunId) (offset : ℕ) (label : Label) (dest : Reg) (i : IsInnermost codes waiting f offset label)
    → dest ≡ i.caller.dest → HasDest dest waiting
unfolding changes.paused_regs
version_dest codes waiting f offset label dest i same = subst (HasDest dest) (sym i.is) (subst (λ (r : Reg). r.0 < length i.regs) (sym same) i.caller.within)

pub version_returned : (codes : Codes) (s : State) (f : FunId) (offset : ℕ) (label : Label) (dest : Reg) (next : Label) (value : ℤ)
    (i : IsInnermost codes s.stack.waiting f offset label)
    → dest ≡ i.caller.dest → next ≡ i.caller.next
    → returns_to codes s value s.stack.waiting ≡ Continues (counted s (returned s.stack dest next value) s.memory [] s.entries)
unfolding returned returned_to moved_to changes.resumed
version_returned codes s f offset label dest next value i one two =
    let c = i.caller in
    returns_to_version codes s value s.stack.waiting i.others (record { function = f; offset = offset; label = label; regs = i.regs }) c.code c.place c.dest
    c.function c.args c.next i.is c.found c.at c.instr
    ∙ rw (i.is, one, two) refl

none_left : (waiting : List Paused) → innermost waiting ≡ None → waiting ≡ []
unfolding innermost
none_left [] is = refl
none_left (a ∷ others) is = let never : ⊥ = cc in absurd never

pub none_returned : (codes : Codes) (s : State) (value : ℤ) → innermost s.stack.waiting ≡ None
    → returns_to codes s value s.stack.waiting ≡ Finishes (Returned value) (counted s s.stack s.memory [] s.entries)
none_returned codes s value is =
    let none = none_left s.stack.waiting is in
    returns_last codes s value s.stack.waiting none
    ∙ ap (λ ws. Finishes (Returned value) (counted s (record { top = s.stack.top; waiting = ws }) s.memory [] s.entries)) (sym none)

-- ---- what a step left to do was done

pub enters_step : (P : Program) (turn : Turn) (args : List ℤ) (before now : State) (dest : Reg) (f : FunId) (next : Label) (codes : Codes) (look : Option Look)
    (final : Progress)
    → IsStep P turn args before now (step.Enters dest f next)
    → turn_by P codes look now now.stack.top (Calls dest f args next) ≡ final → turn codes look ≡ final
enters_step P turn args before now dest f next codes look final is made =
    is.1 codes look ∙ subst (λ (s : State). turn_by P codes look s s.stack.top (Calls dest f args next) ≡ final) is.0 made

pub returns_step : (P : Program) (turn : Turn) (args : List ℤ) (before now : State) (value : ℤ) (codes : Codes) (look : Option Look) (final : Progress)
    → IsStep P turn args before now (step.Returns value)
    → returns_to codes now value now.stack.waiting ≡ final → turn codes look ≡ final
returns_step P turn args before now value codes look final is made =
    is.1 codes look ∙ subst (λ (s : State). returns_to codes s value s.stack.waiting ≡ final) is.0 made

-- ---- the start

pub start_made : (P : Program) (codes : Codes) (call : ScriptCall) (memory printed : List ℤ) (looks : List Look) (notes : List Note) (look : Look)
    (position : Position) (count : ℕ) (stack : Stacked)
    → printed ≡ [] → notes ≡ [] → looks ≡ look ∷ []
    → versions.entered P codes (Some look) call.function call.args ≡ Some (active_at position (entry_regs count call.args))
    → stack ≡ entered position count call.args []
    → version_start P codes (slice_get looks 0) (begun_with call memory)
    ≡ Continues (record { stack = stack; memory = memory; printed = printed; turns = 0; base_turns = 0; fails = 0; entries = length looks; notes = notes })
unfolding version_start begins_in first_state begun_with entered
start_made P codes call memory printed looks notes look position count stack p n l e s =
    rw (l, e, p, n, s) refl
