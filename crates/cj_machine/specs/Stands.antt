-- When a state of the versioned machine stands for the base run of its call.
use Rattle.std.specs.Prelude.{◌≡◌, ℕ, ◌+◌, ◌-◌, ◌*◌, ◌≤◌, ◌<◌, List, [], ◌∷◌, ◌++◌, Some, ℤ, ◌≢◌, ⊤}
use Rattle.std.specs.List.{Contains}
use Rattle.cj_ir.specs.declared.language.FunId.{FunId}
use Rattle.cj_ir.specs.declared.language.Label.{Label}
use Rattle.cj_ir.specs.declared.language.Reg.{Reg}
use Rattle.cj_ir.specs.declared.language.Operand.{Operand}
use Rattle.cj_ir.specs.declared.language.Program.{Program}
use Rattle.cj_base.specs.declared.machine.Waiting.{Waiting}
use Rattle.cj_base.specs.declared.machine.End.{End}
use Rattle.cj_base.specs.declared.machine.End.TheVariants.{TurnLimit}
use Rattle.cj_base.specs.Machine.{Stack, over}
use Rattle.cj_base.specs.Run.{Begun, base_run, RunAt, SilentAt, EndStands}
use Rattle.cj_draft.specs.declared.instructions.VInstr.TheVariants.{Call}
use Rattle.cj_draft.specs.declared.code.Back.{Back}
use Rattle.cj_draft.specs.declared.code.Place.{Place}
use Rattle.cj_draft.specs.declared.code.Code.{Code}
use Rattle.cj_draft.specs.Points.{frames_of}
use Rattle.cj_draft.specs.Arrives.{place_at, Admits, left_waiting}
use Rattle.cj_draft.specs.Sound.{RowWithin}
use Rattle.cj_calls.specs.Reports.{NotesStand}
use Rattle.cj_activations.specs.Activations.{VersionFrame, Active, InBase, InVersion, Paused, BaseWaits, VersionWaits}
use Rattle.cj_machine.specs.Versions.{State, Codes, Progress, Continues, Finishes, Undefined}
use Rattle.cj_machine.specs.Memories.{base_memory}

-- ---- the base frames of activations

-- a version's code and its place in it, which admits its registers
pub record IsPlaced (codes : Codes) (v : VersionFrame) : Type 0 where
  pub code : Code
  pub place : Place
  pub found : codes v.function v.offset ≡ Some code
  pub at : place_at code v.label ≡ Some place
  pub admits : Admits code place v.regs

-- A version that waits is at a call. It stands for the frames that wait while the base frames of its place run theirs.
pub record IsPausedVersion (P : Program) (codes : Codes) (v : VersionFrame) (frames : List Waiting) : Type 0 where
  pub placed : IsPlaced codes v
  pub dest : Reg
  pub function : FunId
  pub args : List Operand
  pub next : Label
  pub instr : placed.place.instr ≡ Call dest function args next
  pub same : frames ≡ left_waiting P (frames_of P placed.place.point v.regs)

-- the waiting frames for which a waiting activation stands
abbrev pub PausedIs : Program → Codes → Paused → List Waiting → Type 0
PausedIs P codes (BaseWaits w) frames = frames ≡ w ∷ []
PausedIs P codes (VersionWaits v) frames = IsPausedVersion P codes v frames

-- those of several, one after the other
abbrev pub PausedAre : Program → Codes → List Paused → List Waiting → Type 0
PausedAre P codes [] frames = frames ≡ []
PausedAre P codes (a ∷ others) frames =
    (front : List Waiting) × (behind : List Waiting) ×
    PausedIs P codes a front × PausedAre P codes others behind × (frames ≡ front ++ behind)

-- ---- the pairs of the place on top

-- That many base turns ago the base run had the pair's frames, and its turns since then were nops and conds. So none of
-- them entered a function.
pub record BackStands
    (P : Program) (call : Begun) (s : State) (below : List Waiting) (regs : List ℤ) (pair : Back) : Type 0 where
  pub within : pair.turns ≤ s.base_turns
  pub run : RunAt P call (s.base_turns - pair.turns) s.printed (over (frames_of P pair.point regs) below) s.memory
  pub silent : (i : ℕ) → s.base_turns - pair.turns ≤ i → i < s.base_turns → SilentAt P (base_run P call i)
  pub entries : pair.turns + s.entries ≤ s.base_turns + 1

-- ---- the activation on top

-- A version on top has its place and the frames of the place's point. Each pair of the place stands. From its label on at
-- most `row` Assumes and Anchors follow each other.
pub record VersionTop
    (P : Program) (codes : Codes) (call : Begun) (s : State)
    (below : List Waiting) (row : ℕ) (v : VersionFrame) (stack : Stack) : Type 0 where
  pub placed : IsPlaced codes v
  pub same : stack ≡ frames_of P placed.place.point v.regs
  pub backs : (pair : Back) → Contains placed.place.backs pair → BackStands P call s below v.regs pair
  pub ahead : RowWithin placed.code row v.label

abbrev pub TopStands : Program → Codes → Begun → State → List Waiting → ℕ → Active → Stack → Type 0
TopStands P codes call s below row (InBase fr) stack = stack ≡ record { top = fr; waiting = [] }
TopStands P codes call s below row (InVersion v) stack = VersionTop P codes call s below row v stack

-- ---- counts

-- how many activations are versions
unfoldable pub versions_on_top : Active → ℕ
versions_on_top (InBase fr) = 0
versions_on_top (InVersion v) = 1

unfoldable pub versions_waiting : List Paused → ℕ
versions_waiting [] = 0
versions_waiting (BaseWaits w ∷ others) = versions_waiting others
versions_waiting (VersionWaits v ∷ others) = versions_waiting others + 1

-- Since the last turn that counted a base turn `since` others were made, and at most `row` more such are ahead.
pub record CountsStand (s : State) (since row : ℕ) : Type 0 where
  pub base_turns : s.base_turns ≤ s.turns
  pub entries : s.entries ≤ s.base_turns + 1
  pub versions : s.fails + (versions_on_top s.stack.top + versions_waiting s.stack.waiting) ≤ s.entries
  pub in_a_row : since + row ≤ 8
  pub turns : s.turns ≤ 9 * (s.base_turns + 4 * s.fails) + since

-- ---- the whole

-- After the state's base turns the base run goes on, with its prints, its memory and the base frames of its activations:
-- `stack` for the one on top, and `below` for those that wait.
pub record Stands (P : Program) (codes : Codes) (call : Begun) (s : State) : Type 0 where
  pub stack : Stack
  pub below : List Waiting
  pub since : ℕ
  pub row : ℕ
  pub run : RunAt P call s.base_turns s.printed (over stack below) s.memory
  pub top : TopStands P codes call s below row s.stack.top stack
  pub waiting : PausedAre P codes s.stack.waiting below
  pub counts : CountsStand s since row
  pub notes : NotesStand P call s.notes

-- A turn ended the run: the base run ended with the last of the state's base turns, with its prints, its memory and
-- this end.
pub record HasEnded (P : Program) (call : Begun) (end : End) (s : State) : Type 0 where
  pub run : EndStands P call s.base_turns s.printed end
  pub memory : s.memory ≡ base_memory P call s.base_turns
  pub notes : NotesStand P call s.notes
  pub bound : s.turns ≤ 45 * (s.base_turns + 1)
  pub no_limit : end ≢ TurnLimit

-- what holds of a run that agrees with the base run
abbrev pub Holds : Program → Codes → Begun → Progress → Type 0
Holds P codes call (Continues s) = Stands P codes call s
Holds P codes call (Finishes end s) = HasEnded P call end s
Holds P codes call Undefined = ⊤
