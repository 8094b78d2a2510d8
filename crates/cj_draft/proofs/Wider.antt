-- What names registers and labels below some counts names some below greater ones.
use Rattle.std.proofs.Common.{ℕ, ◌<◌, ◌≤◌, List, arith}
use Rattle.std.specs.Prelude.{All}
use Rattle.std.proofs.lemmas.List.Elements.{All-weaker}
use Rattle.cj_ir.specs.Values.{IsOperandWithin, IsExprWithin}
use Rattle.cj_ir.specs.declared.language.Program.{Program}
use Rattle.cj_ir.specs.declared.language.Operand.{Operand}
use Rattle.cj_ir.specs.declared.language.Operand.TheVariants as operand
use Rattle.cj_ir.specs.declared.language.Expr.{Expr}
use Rattle.cj_ir.specs.declared.language.Expr.TheVariants as expr
use Rattle.cj_ir.specs.declared.language.Guard.{Guard}
use Rattle.cj_ir.specs.declared.language.Guard.TheVariants.{Is, Never}
use Rattle.cj_draft.specs.declared.points.PointFrame.{PointFrame}
use Rattle.cj_draft.specs.declared.points.Point.{Point}
use Rattle.cj_draft.specs.declared.facts.Facts.{Facts}
use Rattle.cj_draft.specs.declared.facts.Facts.TheVariants.{Unreached, Known}
use Rattle.cj_draft.specs.declared.instructions.Pair.{Pair}
use Rattle.cj_draft.specs.declared.instructions.VInstr.{VInstr}
use Rattle.cj_draft.specs.declared.instructions.VInstr.TheVariants.{Nop, Op, Move, Cond, Call, Return, Print, Load, Store, Fail, Assume, Anchor}
use Rattle.cj_draft.specs.declared.code.Back.{Back}
use Rattle.cj_draft.specs.declared.code.Place.{Place}
use Rattle.cj_draft.specs.WellNamed.{IsPointFrameFine, IsPointFine, IsGuardWithin, ArePairsFine, IsVInstrFine, HasFineFacts, IsBackFine, IsPlaceFine}

module _ (P : Program) (n n' k k' : ℕ) (regs : n ≤ n') (labels : k ≤ k') where
  pub operand_wider : (o : Operand) → IsOperandWithin n o → IsOperandWithin n' o
  operand_wider (operand.Reg r) h = omega arith
  operand_wider (operand.Const v) h = h

  expr_wider : (e : Expr) → IsExprWithin n e → IsExprWithin n' e
  expr_wider (expr.Copy a) h = operand_wider a h
  expr_wider (expr.Neg a) h = operand_wider a h
  expr_wider (expr.Eqz a) h = operand_wider a h
  expr_wider (expr.Add a b) h = (operand_wider a h.0, operand_wider b h.1)
  expr_wider (expr.Sub a b) h = (operand_wider a h.0, operand_wider b h.1)
  expr_wider (expr.Mul a b) h = (operand_wider a h.0, operand_wider b h.1)
  expr_wider (expr.Div a b) h = (operand_wider a h.0, operand_wider b h.1)
  expr_wider (expr.Rem a b) h = (operand_wider a h.0, operand_wider b h.1)
  expr_wider (expr.Eq a b) h = (operand_wider a h.0, operand_wider b h.1)
  expr_wider (expr.Lt a b) h = (operand_wider a h.0, operand_wider b h.1)

  pub operands_wider : (os : List Operand) → All (IsOperandWithin n) os → All (IsOperandWithin n') os
  operands_wider os h = All-weaker (IsOperandWithin n) (IsOperandWithin n') operand_wider os h

  guard_wider : (g : Guard) → IsGuardWithin n g → IsGuardWithin n' g
  guard_wider (Is r v) h = omega arith
  guard_wider Never h = h

  frame_wider : (f : PointFrame) → IsPointFrameFine P n f → IsPointFrameFine P n' f
  frame_wider f h = record { label_within = h.label_within; whole_map = h.whole_map; operands = operands_wider f.map h.operands }

  pub frames_wider : (fs : List PointFrame) → All (IsPointFrameFine P n) fs → All (IsPointFrameFine P n') fs
  frames_wider fs h = All-weaker (IsPointFrameFine P n) (IsPointFrameFine P n') frame_wider fs h

  point_wider : (p : Point) → IsPointFine P n p → IsPointFine P n' p
  point_wider p h = record { some_frame = h.some_frame; few_frames = h.few_frames; frames = frames_wider p.frames h.frames; dests = h.dests }

  pairs_wider : (ps : List Pair) → ArePairsFine n ps → ArePairsFine n' ps
  pairs_wider ps h = record {
    dests = All-weaker (λ (p : Pair). p.dest.0 < n) (λ (p : Pair). p.dest.0 < n') (λ p lt. omega arith) ps h.dests;
    differ = h.differ;
    operands = All-weaker (λ (p : Pair). IsOperandWithin n p.value) (λ (p : Pair). IsOperandWithin n' p.value) (λ p. operand_wider p.value) ps h.operands;
  }

  pub instr_wider : (i : VInstr) → IsVInstrFine P n k i → IsVInstrFine P n' k' i
  instr_wider (Nop x) h = omega arith
  instr_wider (Op d e x) h = let v : d.0 < n = h.0 in let w : x.0 < k = h.2 in (omega arith, expr_wider e h.1, omega arith)
  instr_wider (Move ps x) h = let w : x.0 < k = h.1 in (pairs_wider ps h.0, omega arith)
  instr_wider (Cond t x y) h = let v : x.0 < k = h.1 in let w : y.0 < k = h.2 in (operand_wider t h.0, omega arith, omega arith)
  instr_wider (Call d f args x) h = let v : d.0 < n = h.0 in let w : x.0 < k = h.3 in (omega arith, h.1, operands_wider args h.2, omega arith)
  instr_wider (Return v) h = operand_wider v h
  instr_wider (Print v x) h = let w : x.0 < k = h.1 in (operand_wider v h.0, omega arith)
  instr_wider (Load d a x) h = let v : d.0 < n = h.0 in let w : x.0 < k = h.2 in (omega arith, operand_wider a h.1, omega arith)
  instr_wider (Store a v x) h = let w : x.0 < k = h.2 in (operand_wider a h.0, operand_wider v h.1, omega arith)
  instr_wider (Fail f l) h = h
  instr_wider (Assume gs b t x) h =
      let w : x.0 < k = h.4 in
      (h.0, All-weaker (IsGuardWithin n) (IsGuardWithin n') guard_wider gs h.1, h.2, point_wider t h.3, omega arith)
  instr_wider (Anchor b t x) h = let w : x.0 < k = h.2 in (h.0, point_wider t h.1, omega arith)

  facts_wider : (fs : Facts) → HasFineFacts n fs → HasFineFacts n' fs
  facts_wider Unreached h = h
  facts_wider (Known fs) h = record
      { registers = All-weaker (λ x. x.reg.0 < n) (λ x. x.reg.0 < n') (λ x lt. omega arith) fs h.registers; increasing = h.increasing }

  back_wider : (q : Back) → IsBackFine P n q → IsBackFine P n' q
  back_wider q h = record { few_turns = h.few_turns; point = point_wider q.point h.point }

  pub place_wider : (p : Place) → IsPlaceFine P n k p → IsPlaceFine P n' k' p
  place_wider p h = record {
    instr = instr_wider p.instr h.instr;
    point = point_wider p.point h.point;
    facts = facts_wider p.facts h.facts;
    backs = All-weaker (IsBackFine P n) (IsBackFine P n') back_wider p.backs h.backs;
  }
