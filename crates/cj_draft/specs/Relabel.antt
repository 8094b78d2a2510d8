-- Instructions whose edges are led to other labels.
use Rattle.cj_ir.specs.declared.language.Label.{Label}
use Rattle.cj_draft.specs.declared.instructions.VInstr.{VInstr}
use Rattle.cj_draft.specs.declared.instructions.VInstr.TheVariants.{Nop, Op, Move, Cond, Call, Return, Print, Load, Store, Fail, Assume, Anchor}

-- each next label becomes the one that `r` gives for it
unfoldable pub relabel : (Label → Label) → VInstr → VInstr
relabel r (Nop next) = Nop (r next)
relabel r (Op dest expr next) = Op dest expr (r next)
relabel r (Move pairs next) = Move pairs (r next)
relabel r (Cond test then_to else_to) = Cond test (r then_to) (r else_to)
relabel r (Call dest f args next) = Call dest f args (r next)
relabel r (Return value) = Return value
relabel r (Print value next) = Print value (r next)
relabel r (Load dest address next) = Load dest address (r next)
relabel r (Store address value next) = Store address value (r next)
relabel r (Fail f label) = Fail f label
relabel r (Assume guards back target next) = Assume guards back target (r next)
relabel r (Anchor back target next) = Anchor back target (r next)
