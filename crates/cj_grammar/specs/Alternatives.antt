-- The alternatives of a rule that has many, by name.
use Rattle.std.proofs.Common.{inl, inr}
use Rattle.cj_grammar.specs.Grammar.{Tree}
use Rattle.cj_grammar.specs.Rules.{binary, nop_instr, op_instr, cond_instr, call_instr, return_instr, print_instr, load_instr, store_instr, fail_instr, instr}

-- what is said of an instruction, by its kind
pub record OfInstr (X : Type 0) : Type 0 where
  pub nop : Tree nop_instr → X
  pub op : Tree op_instr → X
  pub cond : Tree cond_instr → X
  pub call : Tree call_instr → X
  pub return : Tree return_instr → X
  pub print : Tree print_instr → X
  pub load : Tree load_instr → X
  pub store : Tree store_instr → X
  pub fail : Tree fail_instr → X

unfoldable pub of_instr : {X : Type 0} → OfInstr X → Tree instr → X
unfolding instr
of_instr of (inl t) = of.nop t
of_instr of (inr (inl t)) = of.op t
of_instr of (inr (inr (inl t))) = of.cond t
of_instr of (inr (inr (inr (inl t)))) = of.call t
of_instr of (inr (inr (inr (inr (inl t))))) = of.return t
of_instr of (inr (inr (inr (inr (inr (inl t)))))) = of.print t
of_instr of (inr (inr (inr (inr (inr (inr (inl t))))))) = of.load t
of_instr of (inr (inr (inr (inr (inr (inr (inr (inl t)))))))) = of.store t
of_instr of (inr (inr (inr (inr (inr (inr (inr (inr t)))))))) = of.fail t

-- what is said of an operator, by its mark
pub record OfBinary (X : Type 0) : Type 0 where
  pub plus : X
  pub minus : X
  pub star : X
  pub slash : X
  pub percent : X
  pub equals : X
  pub less : X

unfoldable pub of_binary : {X : Type 0} → OfBinary X → Tree binary → X
unfolding binary
of_binary of (inl mark) = of.plus
of_binary of (inr (inl mark)) = of.minus
of_binary of (inr (inr (inl mark))) = of.star
of_binary of (inr (inr (inr (inl mark)))) = of.slash
of_binary of (inr (inr (inr (inr (inl mark))))) = of.percent
of_binary of (inr (inr (inr (inr (inr (inl mark)))))) = of.equals
of_binary of (inr (inr (inr (inr (inr (inr mark)))))) = of.less
