-- A code by hand for the tests. Its first instruction is a store that fails, so no run comes behind it.
use Rattle.std.specs.Prelude.{ℕ, pos, negsuc, List, [], ◌∷◌}
use Rattle.cj_ir.specs.declared.language.FunId.{FunId}
use Rattle.cj_ir.specs.declared.language.Label.{Label}
use Rattle.cj_ir.specs.declared.language.Reg.{Reg}
use Rattle.cj_ir.specs.declared.language.Operand.TheVariants as operand
use Rattle.cj_ir.specs.declared.language.Expr.TheVariants.{Copy}
use Rattle.cj_ir.specs.declared.language.Guard.{Guard}
use Rattle.cj_ir.specs.declared.language.Guard.TheVariants.{Is}
use Rattle.cj_draft.specs.declared.points.Point.{Point}
use Rattle.cj_draft.specs.declared.facts.Facts.{Facts}
use Rattle.cj_draft.specs.declared.facts.Facts.TheVariants.{Unreached, Known}
use Rattle.cj_draft.specs.declared.instructions.VInstr.{VInstr}
use Rattle.cj_draft.specs.declared.instructions.VInstr.TheVariants.{Op, Move, Return, Store, Assume}
use Rattle.cj_draft.specs.declared.code.Place.{Place}
use Rattle.cj_draft.specs.declared.code.Code.{Code}

abbrev pub reg : ℕ → Reg
reg n = record { 0 = n }

abbrev pub label : ℕ → Label
label n = record { 0 = n }

-- no memory has the address
abbrev pub failing : VInstr
failing = Store (operand.Const (negsuc 0)) (operand.Const (pos 0)) (label 1)

abbrev pub six : VInstr
six = Op (reg 1) (Copy (operand.Const (pos 6))) (label 2)

abbrev pub swap : VInstr
swap =
    Move
    (record { dest = reg 0; value = operand.Reg (reg 1) } ∷ record { dest = reg 1; value = operand.Reg (reg 0) } ∷ [])
    (label 3)

-- after the swap the first guard is true, and the others are false
abbrev pub guards : List Guard
guards = Is (reg 0) (pos 6) ∷ Is (reg 0) (pos 5) ∷ Is (reg 1) (pos 6) ∷ []

abbrev pub place : Point → Facts → VInstr → Place
place point facts instr = record { instr = instr; point = point; facts = facts; backs = [] }

abbrev pub behind : Point → List Place
behind point =
    place point (Known []) failing
    ∷ place point Unreached six
    ∷ place point Unreached swap
    ∷ place point Unreached (Assume guards 0 point (label 4))
    ∷ place point Unreached (Return (operand.Reg (reg 1)))
    ∷ []

abbrev pub behind_code : FunId → Point → Code
behind_code f point = record { function = f; regs = 2; entry = label 0; places = behind point }
