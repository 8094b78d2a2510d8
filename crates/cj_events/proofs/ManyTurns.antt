-- Items that are read one after another leave no more tokens than there were, where none of them does.
use Rattle.std.proofs.Common.{ℕ, zero, suc, ◌≤◌, Bool, List, [], ◌∷◌, ◌++◌, length, arith}
use Rattle.cj_tokens.specs.Lexemes.{Lexeme}
use Rattle.cj_grammar.specs.Readers.{Read}
use Rattle.cj_script.specs.Reading.{many_at, all_at}
use Rattle.cj_script.proofs.Turns.{Within, ok_within, then_within, cond_within}

many_within : {X : Type 0} (more : List Lexeme → Bool) (one : List X → List Lexeme → Read X) →
    ((earlier : List X) (ts : List Lexeme) → Within X (length ts) (one earlier ts)) → (n : ℕ) (earlier : List X) (ts : List Lexeme) →
    Within (List X) (length ts) (many_at more one n earlier ts)
many_within more one within zero earlier ts = ok_within earlier (length ts) ts (omega arith)
many_within {X = X} more one within (suc n) earlier ts =
    cond_within (more ts) (length ts) _ _
    (then_within (one earlier ts) (length ts) (length ts) _ (within earlier ts)
    (λ x fewer. record {
      within = λ y h. let l : length y.1 ≤ length x.1 = (many_within more one within n (earlier ++ x.0 ∷ []) x.1).within y h in omega arith;
    }))
    (ok_within earlier (length ts) ts (omega arith))

pub all_within : {X : Type 0} (more : List Lexeme → Bool) (one : List X → List Lexeme → Read X) →
    ((earlier : List X) (ts : List Lexeme) → Within X (length ts) (one earlier ts)) → (earlier : List X) (ts : List Lexeme) →
    Within (List X) (length ts) (all_at more one earlier ts)
unfolding all_at
all_within more one within earlier ts = many_within more one within (length ts) earlier ts
