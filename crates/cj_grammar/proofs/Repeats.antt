-- A repeated part, turn by turn.
use Rattle.std.proofs.Common.{◌≡◌, ℕ, zero, suc, ◌<◌, ◌≤◌, true, false, cond, List, [], ◌∷◌, length, Ok, refl, ◌∙◌, inl, inr, arith}
use Rattle.cj_tokens.specs.Lexemes.{Lexeme}
use Rattle.cj_grammar.specs.Grammar.{Rule, many}
use Rattle.cj_grammar.specs.OneAhead.{is_empty, starts, ◌>>=◌, eat, eat_many}
use Rattle.cj_grammar.proofs.Signs.{known_bool}
use Rattle.cj_grammar.proofs.Eats.{known}
use Rattle.cj_grammar.proofs.Begins.{shorter}

-- `eat (many a)` turn by turn
enough : (a : Rule) → is_empty a ≡ false → (n n' : ℕ) (ts : List Lexeme) → length ts ≤ n → length ts ≤ n' →
    eat_many (eat a) (starts a) n ts ≡ eat_many (eat a) (starts a) n' ts
enough a e zero zero ts h h' = refl
enough a e zero (suc n') [] h h' = refl
enough a e zero (suc n') (t ∷ ts) h h' = absurd (omega arith)
enough a e (suc n) zero [] h h' = refl
enough a e (suc n) zero (t ∷ ts) h h' = absurd (omega arith)
enough a e (suc n) (suc n') ts h h' = elim (known_bool (starts a ts)) [
  | inl b ↦ rw b (elim (known (eat a ts)) [
    | inl m ↦ let d : length m.0 < length ts = shorter a ts m.0 e m.1 in rw m.1 (enough a e n n' m.0 (omega arith) (omega arith))
    | inr m ↦ rw m.1 refl
  ])
  | inr b ↦ rw b refl
]

pub many_turn : (a : Rule) (ts : List Lexeme) → is_empty a ≡ false → eat (many a) ts ≡ cond (starts a ts) (eat a ts >>= eat (many a)) (Ok ts)
many_turn a [] e = refl
many_turn a (t ∷ ts) e = elim (known_bool (starts a (t ∷ ts))) [
  | inl b ↦ rw b (elim (known (eat a (t ∷ ts))) [
    | inl m ↦ let d : length m.0
        < length (t ∷ ts) = shorter a (t ∷ ts) m.0 e m.1 in rw m.1 (enough a e (length ts) (length m.0) m.0 (omega arith) (omega arith))
    | inr m ↦ rw m.1 refl
  ])
  | inr b ↦ rw b refl
]

-- A loop over parts: while a part begins, one part and the rest; else nothing.
pub many_goes : (a : Rule) (ts : List Lexeme) → is_empty a ≡ false → starts a ts ≡ true → eat (many a) ts ≡ (eat a ts >>= eat (many a))
many_goes a ts e s = many_turn a ts e ∙ rw s refl

pub many_stops : (a : Rule) (ts : List Lexeme) → is_empty a ≡ false → starts a ts ≡ false → eat (many a) ts ≡ Ok ts
many_stops a ts e s = many_turn a ts e ∙ rw s refl
