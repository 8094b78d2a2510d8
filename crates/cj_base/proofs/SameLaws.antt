-- What is used of `Same`, and no more: six laws.
use Rattle.std.proofs.Common.{◌≡◌, ◌∙◌, ap, subst, refl, List, ℤ}
use Rattle.std.specs.Prelude.{⊤}
use Rattle.cj_ir.specs.Program.{instr_at}
use Rattle.cj_ir.specs.declared.language.Program.{Program}
use Rattle.cj_base.specs.declared.machine.Waiting.{Waiting}
use Rattle.cj_base.specs.Machine.{Stack, over, Outcome, Goes, Ends, Stuck, base_turn}
use Rattle.cj_base.specs.Same.{Same}
use Rattle.cj_base.specs.Fits.{StackFits}

pub same_refl : (P : Program) (a : Stack) → Same P a a
unfolding Same
same_refl P a = refl

pub same_trans : (P : Program) (a b c : Stack) → Same P a b → Same P b c → Same P a c
unfolding Same
same_trans P a b c p q = p ∙ q

-- kept under further waiting frames
pub same_over : (P : Program) (a b : Stack) (below : List Waiting) → Same P a b → Same P (over a below) (over b below)
unfolding Same
same_over P a b below p = ap (λ s. over s below) p

-- the same instruction stands at the top
pub same_instr : (P : Program) (a b : Stack) → Same P a b → instr_at P a.top.function a.top.label ≡ instr_at P b.top.function b.top.label
unfolding Same
same_instr P a b p = ap (λ s. instr_at P s.top.function s.top.label) p

-- where one of two stacks that are the same fits a program, so does the other
pub same_fits : (P : Program) (a b : Stack) → Same P a b → StackFits P a → StackFits P b
unfolding Same
same_fits P a b same fits = subst (StackFits P) same fits

-- two turns end alike, or print alike and go on from the same stack with the same memory
abbrev pub SameOutcome : Program → Outcome → Outcome → Type 0
SameOutcome P (Goes p c) (Goes q d) = (p ≡ q) × Same P c.stack d.stack × (c.memory ≡ d.memory)
SameOutcome P (Goes p c) (Ends e) = ⊥
SameOutcome P (Goes p c) Stuck = ⊥
SameOutcome P (Ends e) (Goes q d) = ⊥
SameOutcome P (Ends e) (Ends f) = e ≡ f
SameOutcome P (Ends e) Stuck = ⊥
SameOutcome P Stuck (Goes q d) = ⊥
SameOutcome P Stuck (Ends f) = ⊥
SameOutcome P Stuck Stuck = ⊤

pub outcome_refl : (P : Program) (o : Outcome) → SameOutcome P o o
outcome_refl P (Goes p c) = (refl, same_refl P c.stack, refl)
outcome_refl P (Ends e) = refl
outcome_refl P Stuck = tt

-- kept by a base turn
pub same_turn : (P : Program) (a b : Stack) (m : List ℤ) → Same P a b → SameOutcome P (base_turn P a m) (base_turn P b m)
unfolding Same
same_turn P a b m p =
    subst (λ s. SameOutcome P (base_turn P a m) (base_turn P s m)) p (outcome_refl P (base_turn P a m))
