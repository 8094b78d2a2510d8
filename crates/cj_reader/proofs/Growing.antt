-- Items that are read one after another, turn by turn.
use Rattle.std.proofs.Common.{◌≡◌, ℕ, suc, ◌+◌, ◌-◌, ◌<◌, List, [], ◌∷◌, ◌++◌, Ok, Err, refl, ap, ◌∙◌, arith}
use Rattle.cj_tokens.specs.Lexemes.{Lexeme}
use Rattle.cj_grammar.specs.OneAhead.{◌>>=◌}
use Rattle.cj_grammar.specs.Readers.{Read, each_at}
use Rattle.cj_reader.specs.Reading.{one_more_at}

taken : {X : Type 0} (one : List X → List Lexeme → Read X) (n : ℕ) (r : Read X) (earlier : List X) → (r >>= λ x. each_at one n (earlier ++ x.0 ∷ []) x.1)
    ≡ (let more : X × List Lexeme → Read (List X) = λ x. Ok (earlier ++ x.0 ∷ [], x.1) in r >>= more) >>= λ y. each_at one n y.0 y.1
taken one n (Ok x) earlier = refl
taken one n (Err e) earlier = refl

turned : {X : Type 0} (one : List X → List Lexeme → Read X) (n k : ℕ) (earlier : List X) (ts : List Lexeme) → k < n →
    each_at one (n - k) earlier ts ≡ (one_more_at one earlier ts >>= λ y. each_at one (n - (k + 1)) y.0 y.1)
turned one n k earlier ts h = rw (let more : n - k ≡ suc (n - (k + 1)) = omega arith in more) (taken one (n - (k + 1)) (one earlier ts) earlier)

pub each_goes : {X : Type 0} (one : List X → List Lexeme → Read X) (n k : ℕ) (earlier items : List X) (ts us : List Lexeme) → k < n →
    one_more_at one earlier ts ≡ Ok (items, us) → each_at one (n - k) earlier ts ≡ each_at one (n - (k + 1)) items us
each_goes {X} one n k earlier items ts us h e = turned one n k earlier ts h ∙ ap (λ (r : Read (List X)). r >>= λ y. each_at one (n - (k + 1)) y.0 y.1) e
