-- The versioned machine, which runs base bodies and versions: its state, and its turn.
use Rattle.std.specs.Prelude.{ℕ, zero, suc, ◌+◌, ◌-◌, true, false, List, [], ◌∷◌, ◌++◌, map, length, Option, Some, None, ℤ, slice_set, nat_lt, ◌==◌}
use Rattle.std.specs.Prelude.{if◌then◌else◌}
use Rattle.std.specs.Option.{option_and_then, option_map}
use Rattle.cj_ir.specs.declared.language.FunId.{FunId}
use Rattle.cj_ir.specs.declared.language.Label.{Label}
use Rattle.cj_ir.specs.declared.language.Reg.{Reg}
use Rattle.cj_ir.specs.declared.language.Program.{Program}
use Rattle.cj_ir.specs.declared.language.Instr.{Instr}
use Rattle.cj_ir.specs.Program.{instr_at}
use Rattle.cj_base.specs.declared.machine.Frame.{Frame}
use Rattle.cj_base.specs.declared.machine.End.{End}
use Rattle.cj_base.specs.declared.machine.End.TheVariants.{Returned}
use Rattle.cj_base.specs.Machine.{Stack, Effect, On, Calls, Returns, Faults, effect, end_of, entry_regs, entry_frame, waits, resumed}
use Rattle.cj_draft.specs.declared.instructions.VInstr.{VInstr}
use Rattle.cj_draft.specs.declared.instructions.VInstr.TheVariants.{Call}
use Rattle.cj_draft.specs.declared.code.Place.{Place}
use Rattle.cj_draft.specs.declared.code.Code.{Code}
use Rattle.cj_draft.specs.Points.{frames_of}
use Rattle.cj_draft.specs.Effects.{VersionEffect, Plain, Guarded, version_effect}
use Rattle.cj_draft.specs.Arrives.{place_at}
use Rattle.cj_calls.specs.declared.report.Look.{Look}
use Rattle.cj_calls.specs.declared.report.Note.{Note}
use Rattle.cj_activations.specs.Activations.{VersionFrame, Active, InBase, InVersion, Paused, BaseWaits, VersionWaits, Stacked}
use Rattle.cj_calls.specs.declared.report.TheConstants.{MAX_NOTES}

pub record State : Type 0 where
  pub stack : Stacked
  pub memory : List ℤ
  pub printed : List ℤ
  -- the turns that were made, and the base turns for which they stand
  pub turns : ℕ
  pub base_turns : ℕ
  -- the Assumes that failed
  pub fails : ℕ
  -- the looks of the trail that were used
  pub entries : ℕ
  pub notes : List Note

-- the code of each function's versions, by their offsets
abbrev pub Codes : Type 0
Codes = FunId → ℕ → Option Code

-- how far a run is
pub data Progress : Type 0 where
  Continues : State → Progress
  -- its last turn ended it
  Finishes : End → State → Progress
  -- nothing stands where it is, or the trail does not say what is entered
  Undefined : Progress

-- ---- activations

-- the place at which a version stands
unfoldable pub place_in : Codes → VersionFrame → Option Place
place_in codes v = option_and_then (λ code. place_at code v.label) (codes v.function v.offset)

-- an activation as it goes on at a label with these registers
unfoldable pub moved_to : Active → Label → List ℤ → Active
moved_to (InBase fr) next regs = InBase (record { function = fr.function; label = next; regs = regs })
moved_to (InVersion v) next regs =
    InVersion (record { function = v.function; offset = v.offset; label = next; regs = regs })

-- an activation as it waits for the value of a call: a base frame at the call's next label, a version at its call
unfoldable pub paused : Active → Label → Reg → Paused
paused (InBase fr) next dest = BaseWaits (waits fr next dest)
paused (InVersion v) next dest = VersionWaits v

-- ---- entries

-- a version as it is entered: at the code's entry, with the arguments in the first registers and 0 in all others
unfoldable pub version_entry : FunId → ℕ → List ℤ → Code → Active
version_entry f offset args code =
    InVersion (record { function = f; offset = offset; label = code.entry; regs = entry_regs code.regs args })

-- what is entered at an offset: the base body at 0, and else the code that has it
unfoldable pub entered_at : Program → Codes → FunId → List ℤ → ℕ → Option Active
entered_at P codes f args zero = Some (InBase (entry_frame P f args))
entered_at P codes f args (suc n) = option_map (version_entry f (suc n) args) (codes f (suc n))

-- the offset that a look tells of a function
unfoldable pub offset_told : FunId → Look → Option ℕ
offset_told f look = if look.function.0 == f.0 then Some look.offset else None

-- what is entered by the next look of the trail, which has to be of that function
unfoldable pub entered : Program → Codes → Option Look → FunId → List ℤ → Option Active
entered P codes look f args = option_and_then (entered_at P codes f args) (option_and_then (offset_told f) look)

-- ---- turns that count a base turn

-- one turn and one base turn later
unfoldable pub counted : State → Stacked → List ℤ → List ℤ → ℕ → State
counted s stack memory printed entries = record {
  stack = stack;
  memory = memory;
  printed = s.printed ++ printed;
  turns = s.turns + 1;
  base_turns = s.base_turns + 1;
  fails = s.fails;
  entries = entries;
  notes = s.notes;
}

-- a call enters, and its caller waits
unfoldable pub enters : State → Paused → Option Active → Progress
enters s caller None = Undefined
enters s caller (Some top) =
    Continues (counted s (record { top = top; waiting = caller ∷ s.stack.waiting }) s.memory [] (s.entries + 1))

-- a version that has the value of the call at which it stands
unfoldable pub resumed_by : State → List Paused → VersionFrame → ℤ → VInstr → Progress
resumed_by s others v value (Call dest f args next) =
    let top : Active = moved_to (InVersion v) next (slice_set v.regs dest.0 value) in
    Continues (counted s (record { top = top; waiting = others }) s.memory [] s.entries)
resumed_by s others v value instr = Undefined

unfoldable pub resumed_at : State → List Paused → VersionFrame → ℤ → Option Place → Progress
resumed_at s others v value None = Undefined
resumed_at s others v value (Some place) = resumed_by s others v value place.instr

-- the innermost waiting activation takes the value; with none the run ends
unfoldable pub returns_to : Codes → State → ℤ → List Paused → Progress
returns_to codes s value [] =
    Finishes (Returned value) (counted s (record { top = s.stack.top; waiting = [] }) s.memory [] s.entries)
returns_to codes s value (BaseWaits w ∷ others) =
    Continues (counted s (record { top = InBase (resumed w value); waiting = others }) s.memory [] s.entries)
returns_to codes s value (VersionWaits v ∷ others) = resumed_at s others v value (place_in codes v)

-- the turn of an activation by the effect of its instruction
unfoldable pub turn_by : Program → Codes → Option Look → State → Active → Effect → Progress
turn_by P codes look s top (On next regs memory printed) =
    Continues
    (counted s (record { top = moved_to top next regs; waiting = s.stack.waiting }) memory printed s.entries)
turn_by P codes look s top (Calls dest f args next) = enters s (paused top next dest) (entered P codes look f args)
turn_by P codes look s top (Returns value) = returns_to codes s value s.stack.waiting
turn_by P codes look s top (Faults fault) = Finishes (end_of fault) (counted s s.stack s.memory [] s.entries)

-- ---- turns of Assumes, which count no base turn

-- the guards hold
unfoldable pub passed : State → VersionFrame → Label → State
passed s v next = record s {
  stack = record { top = moved_to (InVersion v) next v.regs; waiting = s.stack.waiting };
  turns = s.turns + 1;
}

-- the first notes are kept
unfoldable pub keep_note : List Note → Note → List Note
keep_note notes note = if nat_lt (length notes) MAX_NOTES then notes ++ note ∷ [] else notes

-- a guard fails: base frames take the version's place, `back` base turns ago, which a note says
unfoldable pub rebuilt : State → ℕ → Stack → State
rebuilt s back frames = record s {
  stack = record { top = InBase frames.top; waiting = map BaseWaits frames.waiting ++ s.stack.waiting };
  turns = s.turns + 1;
  base_turns = s.base_turns - back;
  fails = s.fails + 1;
  notes = keep_note s.notes (record { turn = s.base_turns - back; top = frames.top; waiting = frames.waiting });
}

-- ---- turns

-- the turn of a version by the effect of its instruction
unfoldable pub version_turn_by : Program → Codes → Option Look → State → VersionFrame → VersionEffect → Progress
version_turn_by P codes look s v (Plain e) = turn_by P codes look s (InVersion v) e
version_turn_by P codes look s v (Guarded true back target next) = Continues (passed s v next)
version_turn_by P codes look s v (Guarded false back target next) =
    Continues (rebuilt s back (frames_of P target v.regs))

-- at the instruction where a base frame stands
unfoldable pub turn_in_base : Program → Codes → Option Look → State → Frame → Option Instr → Progress
turn_in_base P codes look s fr None = Undefined
turn_in_base P codes look s fr (Some instr) = turn_by P codes look s (InBase fr) (effect instr fr s.memory)

-- at the place where a version stands
unfoldable pub turn_in_version : Program → Codes → Option Look → State → VersionFrame → Option Place → Progress
turn_in_version P codes look s v None = Undefined
turn_in_version P codes look s v (Some place) =
    version_turn_by P codes look s v (version_effect place.instr v.regs s.memory)

unfoldable pub turn_of : Program → Codes → Option Look → State → Active → Progress
turn_of P codes look s (InBase fr) = turn_in_base P codes look s fr (instr_at P fr.function fr.label)
turn_of P codes look s (InVersion v) = turn_in_version P codes look s v (place_in codes v)

-- One turn of the versioned machine. It uses the next look of the trail where it enters a function, and never else.
unfoldable pub version_turn : Program → Codes → Option Look → State → Progress
version_turn P codes look s = turn_of P codes look s s.stack.top
