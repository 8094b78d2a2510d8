-- The turn, its entries and its marks, from what stands on top.
use Rattle.std.proofs.Common.{◌≡◌, ◌≢◌, ℕ, zero, suc, eq-eqb, List, [], ◌∷◌, Option, Some, None, refl, ap, ◌∙◌, arith, ◌+◌}
use Rattle.std.specs.Prelude.{ℤ, slice_set, if◌then◌else◌}
use Rattle.std.specs.Option.{option_and_then, option_map}
use Rattle.cj_ir.specs.Program.{instr_at}
use Rattle.cj_ir.specs.declared.language.FunId.{FunId}
use Rattle.cj_ir.specs.declared.language.Label.{Label}
use Rattle.cj_ir.specs.declared.language.Reg.{Reg}
use Rattle.cj_ir.specs.declared.language.Operand.{Operand}
use Rattle.cj_ir.specs.declared.language.Program.{Program}
use Rattle.cj_ir.specs.declared.language.Instr.{Instr}
use Rattle.cj_base.specs.declared.machine.Frame.{Frame}
use Rattle.cj_base.specs.declared.machine.End.TheVariants.{Returned}
use Rattle.cj_base.specs.Machine.{Calls, effect, entry_frame}
use Rattle.cj_draft.specs.declared.instructions.VInstr.TheVariants.{Call}
use Rattle.cj_draft.specs.declared.code.Place.{Place}
use Rattle.cj_draft.specs.declared.code.Code.{Code}
use Rattle.cj_draft.specs.Effects.{version_effect}
use Rattle.cj_draft.specs.Arrives.{place_at}
use Rattle.cj_calls.specs.declared.report.Look.{Look}
use Rattle.cj_activations.specs.Activations.{VersionFrame, InBase, InVersion, Paused, VersionWaits, Active}
use Rattle.cj_machine.specs.Versions.{State, Codes, Continues, Finishes, place_in, moved_to, version_entry, entered_at, offset_told, entered, counted, enters}
use Rattle.cj_machine.specs.Versions.{paused, resumed_by, resumed_at, returns_to, turn_by, version_turn_by, turn_in_base, turn_in_version, turn_of}
use Rattle.cj_machine.specs.Versions.{version_turn}
use Rattle.cj_machine.specs.Marks.{base_marks, version_marks, place_marks, marks_in, turn_marks}

-- the place of a version, from its code
pub place_is : (codes : Codes) (v : VersionFrame) (code : Code) (place : Place) → codes v.function v.offset ≡ Some code → place_at code v.label ≡ Some place →
    place_in codes v ≡ Some place
unfolding place_in
place_is codes v code place found at = ap (option_and_then (λ (c : Code). place_at c v.label)) found ∙ at

-- ---- turns

-- at a base frame: its instruction's effect
pub turn_at_base : (P : Program) (codes : Codes) (look : Option Look) (s : State) (fr : Frame) (i : Instr) → s.stack.top ≡ InBase fr →
    instr_at P fr.function fr.label ≡ Some i → version_turn P codes look s ≡ turn_by P codes look s (InBase fr) (effect i fr s.memory)
unfolding version_turn turn_of turn_in_base
turn_at_base P codes look s fr i top at = ap (turn_of P codes look s) top ∙ ap (turn_in_base P codes look s fr) at

-- at a version: the effect of the instruction of its place
pub turn_at_version : (P : Program) (codes : Codes) (look : Option Look) (s : State) (v : VersionFrame) (code : Code) (place : Place) →
    s.stack.top ≡ InVersion v → codes v.function v.offset ≡ Some code → place_at code v.label ≡ Some place →
    version_turn P codes look s ≡ version_turn_by P codes look s v (version_effect place.instr v.regs s.memory)
unfolding version_turn turn_of turn_in_version
turn_at_version P codes look s v code place top found at =
    ap (turn_of P codes look s) top ∙ ap (turn_in_version P codes look s v) (place_is codes v code place found at)

-- ---- turns by the effect of the instruction

-- a call enters
pub turn_enters : (P : Program) (codes : Codes) (look : Option Look) (s : State) (top now : Active) (dest : Reg) (f : FunId) (args : List ℤ) (next : Label) →
    entered P codes look f args ≡ Some now → turn_by P codes look s top (Calls dest f args next)
    ≡ Continues (counted s (record { top = now; waiting = paused top next dest ∷ s.stack.waiting }) s.memory [] (s.entries + 1))
unfolding turn_by enters
turn_enters P codes look s top now dest f args next e = ap (enters s (paused top next dest)) e

-- ---- entries

look_tells : (f : FunId) (look : Look) → look.function ≡ f → offset_told f look ≡ Some look.offset
unfolding offset_told
look_tells f look same =
    ap (λ b. if b then Some look.offset else None) (eq-eqb look.function.0 f.0 (ap (λ (g : FunId). g.0) same))

entered_by : (P : Program) (codes : Codes) (o : Option Look) (look : Look) (f : FunId) (args : List ℤ) → o ≡ Some look → look.function ≡ f →
    entered P codes o f args ≡ entered_at P codes f args look.offset
unfolding entered
entered_by P codes o look f args is same =
    ap (λ x. option_and_then (entered_at P codes f args) (option_and_then (offset_told f) x)) is
    ∙ ap (option_and_then (entered_at P codes f args)) (look_tells f look same)

at_zero : (P : Program) (codes : Codes) (f : FunId) (args : List ℤ) (n : ℕ) → n ≡ 0 → entered_at P codes f args n ≡ Some (InBase (entry_frame P f args))
unfolding entered_at
at_zero P codes f args zero e = refl
at_zero P codes f args (suc n) e = absurd (omega arith)

at_offset : (P : Program) (codes : Codes) (f : FunId) (args : List ℤ) (n : ℕ) (code : Code) → n ≢ 0 → codes f n ≡ Some code →
    entered_at P codes f args n ≡ Some (version_entry f n args code)
unfolding entered_at
at_offset P codes f args zero code not e = absurd (not refl)
at_offset P codes f args (suc n) code not e = ap (option_map (version_entry f (suc n) args)) e

-- offset 0 enters the base body
pub enters_base : (P : Program) (codes : Codes) (o : Option Look) (look : Look) (f : FunId) (args : List ℤ) → o ≡ Some look → look.function ≡ f →
    look.offset ≡ 0 → entered P codes o f args ≡ Some (InBase (entry_frame P f args))
enters_base P codes o look f args is same none =
    entered_by P codes o look f args is same ∙ at_zero P codes f args look.offset none

-- another offset enters the code that has it
pub enters_version : (P : Program) (codes : Codes) (o : Option Look) (look : Look) (f : FunId) (args : List ℤ) (code : Code) → o ≡ Some look →
    look.function ≡ f → look.offset ≢ 0 → codes f look.offset ≡ Some code → entered P codes o f args ≡ Some (version_entry f look.offset args code)
enters_version P codes o look f args code is same not found =
    entered_by P codes o look f args is same ∙ at_offset P codes f args look.offset code not found

-- ---- returns

-- nothing waits
pub returns_last : (codes : Codes) (s : State) (value : ℤ) (callers : List Paused) → callers ≡ [] →
    returns_to codes s value callers ≡ Finishes (Returned value) (counted s (record { top = s.stack.top; waiting = [] }) s.memory [] s.entries)
unfolding returns_to
returns_last codes s value callers e = ap (returns_to codes s value) e

-- a version waits innermost, at its call
pub returns_to_version : (codes : Codes) (s : State) (value : ℤ) (callers others : List Paused) (v : VersionFrame) (code : Code) (place : Place) (dest : Reg)
    (f : FunId) (args : List Operand) (next : Label) → callers ≡ VersionWaits v ∷ others → codes v.function v.offset ≡ Some code →
    place_at code v.label ≡ Some place → place.instr ≡ Call dest f args next →
    returns_to codes s value callers
    ≡ Continues (counted s (record { top = moved_to (InVersion v) next (slice_set v.regs dest.0 value); waiting = others }) s.memory [] s.entries)
unfolding returns_to resumed_at resumed_by
returns_to_version codes s value callers others v code place dest f args next e found at is =
    ap (returns_to codes s value) e
    ∙ ap (resumed_at s others v value) (place_is codes v code place found at)
    ∙ ap (resumed_by s others v value) is

-- ---- marks

pub marks_at_base : (P : Program) (codes : Codes) (s : State) (fr : Frame) (i : Instr) → s.stack.top ≡ InBase fr → instr_at P fr.function fr.label ≡ Some i →
    turn_marks P codes s ≡ base_marks fr s.memory (Some i)
unfolding turn_marks marks_in
marks_at_base P codes s fr i top at = ap (marks_in P codes s.memory) top ∙ ap (base_marks fr s.memory) at

pub marks_at_version : (P : Program) (codes : Codes) (s : State) (v : VersionFrame) (code : Code) (place : Place) → s.stack.top ≡ InVersion v →
    codes v.function v.offset ≡ Some code → place_at code v.label ≡ Some place →
    turn_marks P codes s ≡ version_marks v (version_effect place.instr v.regs s.memory)
unfolding turn_marks marks_in place_marks
marks_at_version P codes s v code place top found at =
    ap (marks_in P codes s.memory) top ∙ ap (place_marks v s.memory) (place_is codes v code place found at)
