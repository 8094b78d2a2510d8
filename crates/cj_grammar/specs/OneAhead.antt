-- One token ahead decides: the test of a grammar, which is computed, and the reader that it allows.
use Rattle.std.specs.Prelude.{ℕ, zero, suc, Bool, true, false, cond, ◌&&◌, ◌||◌, not, List, [], ◌∷◌, ◌++◌, length, Result, Ok, Err, nat_eq}
use Rattle.std.specs.List.{list_any}
use Rattle.std.specs.Str.{bytes_eq}
use Rattle.cj_tokens.specs.declared.terminal.Terminal.TheVariants.{Name}
use Rattle.cj_tokens.specs.Lexemes.{Lexeme, Sign, Is, Spelled, number_of, fits}
use Rattle.cj_tokens.specs.Passing.{pass}
use Rattle.cj_grammar.specs.Grammar.{Rule, tok, seq, alt, opt, many}

-- ---- the test

-- whether no token is a sentence
abbrev pub is_empty : Rule → Bool
is_empty (tok s) = false
is_empty (seq a b) = is_empty a && is_empty b
is_empty (alt a b) = is_empty a || is_empty b
is_empty (opt a) = true
is_empty (many a) = true

-- what a sentence can begin with
abbrev pub firsts : Rule → List Sign
firsts (tok s) = s ∷ []
firsts (seq a b) = firsts a ++ (cond (is_empty a) (firsts b) [])
firsts (alt a b) = firsts a ++ firsts b
firsts (opt a) = firsts a
firsts (many a) = firsts a

-- whether some token may fit both
abbrev pub clash : Sign → Sign → Bool
clash (Is j) (Is k) = nat_eq (number_of j) (number_of k)
clash (Is j) (Spelled word) = nat_eq (number_of j) (number_of Name)
clash (Spelled word) (Is k) = nat_eq (number_of Name) (number_of k)
clash (Spelled one) (Spelled other) = bytes_eq one other

abbrev pub has : List Sign → Sign → Bool
has signs s = list_any (λ x. clash x s) signs

-- no token fits one of the first and one of the second
abbrev pub are_apart : List Sign → List Sign → Bool
are_apart [] ys = true
are_apart (x ∷ xs) ys = not (has ys x) && are_apart xs ys

-- One token ahead says which way to go, where what follows begins with one of `next`.
abbrev pub is_plain : Rule → List Sign → Bool
is_plain (tok s) next = true
is_plain (seq a b) next = is_plain a (firsts b ++ cond (is_empty b) next []) && is_plain b next
is_plain (alt a b) next =
    is_plain a next && (is_plain b next && (not (is_empty a) && (not (is_empty b) && are_apart (firsts a) (firsts b))))
is_plain (opt a) next = is_plain a next && (not (is_empty a) && are_apart (firsts a) next)
is_plain (many a) next = is_plain a (firsts a ++ next) && (not (is_empty a) && are_apart (firsts a) next)

-- ---- the reader of one token ahead, on lists

-- the next token fits one of these
abbrev pub is_next : List Sign → List Lexeme → Bool
is_next signs [] = false
is_next signs (t ∷ ts) = list_any (λ s. fits s t) signs

abbrev pub starts : Rule → List Lexeme → Bool
starts r ts = is_next (firsts r) ts

infixl 10 ◌>>=◌
abbrev pub ◌>>=◌ : {A B E : Type 0} → Result A E → (A → Result B E) → Result B E
(Ok x) >>= f = f x
(Err e) >>= f = Err e

abbrev pub eat_many : (List Lexeme → Result (List Lexeme) (List Lexeme)) → (List Lexeme → Bool) → ℕ → List Lexeme → Result (List Lexeme) (List Lexeme)
eat_many eat_one begins zero ts = Ok ts
eat_many eat_one begins (suc n) ts = cond (begins ts) (eat_one ts >>= eat_many eat_one begins n) (Ok ts)

-- What is left behind a sentence of the rule, or from the first token on that fits in none.
abbrev pub eat : Rule → List Lexeme → Result (List Lexeme) (List Lexeme)
eat (tok s) ts = pass s ts
eat (seq a b) ts = eat a ts >>= eat b
eat (alt a b) ts = cond (starts a ts) (eat a ts) (eat b ts)
eat (opt a) ts = cond (starts a ts) (eat a ts) (Ok ts)
eat (many a) ts = eat_many (eat a) (starts a) (length ts) ts
