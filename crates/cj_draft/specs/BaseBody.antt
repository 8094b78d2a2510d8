-- The base body of a function, as a code.
use Rattle.std.specs.Prelude.{ℕ, List, [], ◌∷◌, map, Option, Some, None}
use Rattle.std.specs.List.{enumerate_from, range_with_len}
use Rattle.cj_ir.specs.Program.{function_at, reg_count}
use Rattle.cj_ir.specs.declared.language.FunId.{FunId}
use Rattle.cj_ir.specs.declared.language.Label.{Label}
use Rattle.cj_ir.specs.declared.language.Operand.{Operand}
use Rattle.cj_ir.specs.declared.language.Operand.TheVariants as operand
use Rattle.cj_ir.specs.declared.language.Line.{Line}
use Rattle.cj_ir.specs.declared.language.Function.{Function}
use Rattle.cj_ir.specs.declared.language.Program.{Program}
use Rattle.cj_ir.specs.declared.language.Instr.{Instr}
use Rattle.cj_ir.specs.declared.language.Instr.TheVariants.{Nop, Op, Cond, Call, Return, Print, Load, Store, Fail}
use Rattle.cj_draft.specs.declared.points.Point.{Point}
use Rattle.cj_draft.specs.declared.facts.Facts.TheVariants.{Known}
use Rattle.cj_draft.specs.declared.instructions.VInstr.{VInstr}
use Rattle.cj_draft.specs.declared.instructions.VInstr.TheVariants as version
use Rattle.cj_draft.specs.declared.code.Place.{Place}
use Rattle.cj_draft.specs.declared.code.Code.{Code}

-- the instruction of a label; a failure keeps its label
unfoldable pub as_version : FunId → Label → Instr → VInstr
as_version f label (Nop next) = version.Nop next
as_version f label (Op dest expr next) = version.Op dest expr next
as_version f label (Cond test then_to else_to) = version.Cond test then_to else_to
as_version f label (Call dest g args next) = version.Call dest g args next
as_version f label (Return value) = version.Return value
as_version f label (Print value next) = version.Print value next
as_version f label (Load dest address next) = version.Load dest address next
as_version f label (Store address value next) = version.Store address value next
as_version f label (Fail text) = version.Fail f label

-- every register mapped to itself
unfoldable pub identity : ℕ → List Operand
identity count = map (λ r. operand.Reg (record { 0 = r })) (range_with_len 0 count)

-- the label's own frame alone
unfoldable pub base_point : FunId → ℕ → Label → Point
base_point f count label =
    record { frames = record { function = f; label = label; dest = record { 0 = 0 }; map = identity count } ∷ [] }

-- no facts and no pairs
unfoldable pub base_place : FunId → ℕ → Label → Instr → Place
base_place f count label instr =
    record {
      instr = as_version f label instr;
      point = base_point f count label;
      facts = Known [];
      backs = [];
    }

abbrev pub lines_of : Option Function → List Line
lines_of None = []
lines_of (Some g) = g.code

-- a place for each line, in order
unfoldable pub base_places : FunId → ℕ → List Line → List Place
base_places f count lines =
    map (λ numbered. base_place f count (record { 0 = numbered.0 }) numbered.1.instr) (enumerate_from 0 lines)

-- as many registers and the same labels as the function has, and its entry
unfoldable pub base_code : Program → FunId → Code
base_code P f =
    record {
      function = f;
      regs = reg_count P f;
      entry = record { 0 = 0 };
      places = base_places f (reg_count P f) (lines_of (function_at P f));
    }
