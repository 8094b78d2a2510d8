-- Where instructions go on.
use Rattle.std.specs.Prelude.{nat_eq, cond, List, [], ◌∷◌, length}
use Rattle.cj_ir.specs.declared.language.Label.{Label}
use Rattle.cj_draft.specs.declared.instructions.VInstr.{VInstr}
use Rattle.cj_draft.specs.declared.instructions.VInstr.TheVariants.{Nop, Op, Move, Cond, Call, Return, Print, Load, Store, Fail, Assume, Anchor}
use Rattle.cj_draft.specs.declared.code.Code.{Code}
use Rattle.cj_draft.specs.declared.edges.Successors.{Successors}
use Rattle.cj_draft.specs.declared.edges.Successors.TheVariants.{End, One, Two}

-- the labels to which an instruction goes on, in order
unfoldable pub successors : VInstr → List Label
successors (Nop next) = next ∷ []
successors (Op dest expr next) = next ∷ []
successors (Move pairs next) = next ∷ []
successors (Cond test then_to else_to) = then_to ∷ else_to ∷ []
successors (Call dest f args next) = next ∷ []
successors (Return value) = []
successors (Print value next) = next ∷ []
successors (Load dest address next) = next ∷ []
successors (Store address value next) = next ∷ []
successors (Fail f label) = []
successors (Assume guards back target next) = next ∷ []
successors (Anchor back target next) = next ∷ []

-- labels to which an instruction goes on, as a list
abbrev pub listed : Successors → List Label
listed End = []
listed (One next) = next ∷ []
listed (Two then_to else_to) = then_to ∷ else_to ∷ []

-- ---- a fresh label

-- the label of a place that is appended
unfoldable pub fresh_label : Code → Label
fresh_label code = record { 0 = length code.places }

-- edges to the label go to the fresh one, and others stay
unfoldable pub led_to : Label → Label → Label → Label
led_to label fresh x = cond (nat_eq x.0 label.0) fresh x
