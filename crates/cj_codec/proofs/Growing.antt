-- Items that are read one after another, turn by turn.
use Rattle.std.proofs.Common.{◌≡◌, ℕ, suc, ◌+◌, ◌-◌, ◌<◌, List, [], ◌∷◌, ◌++◌, refl, ap, ◌∙◌, arith}
use Rattle.std.specs.Prelude.{Some, None}
use Rattle.cj_codec.specs.declared.reader.ReadError.{ReadError}
use Rattle.cj_codec.specs.declared.reader.ReadError.TheVariants.{NoSpelling, NoMemory}
use Rattle.cj_spelling.specs.Formats.{Read, Reading, ◌>>=◌, each_at, one_more_at}
use Rattle.cj_codec.specs.Answers.{Fails}

taken : {X : Type 0} (one : Reading X) (n : ℕ) (r : Read X) (earlier : List X) → (r >>= λ x. each_at one n (earlier ++ x.0 ∷ []) x.1)
    ≡ (let more : X × List ℕ → Read (List X) = λ x. Some (earlier ++ x.0 ∷ [], x.1) in r >>= more) >>= λ y. each_at one n y.0 y.1
taken one n None earlier = refl
taken one n (Some x) earlier = refl

turned : {X : Type 0} (one : Reading X) (n k : ℕ) (earlier : List X) (ws : List ℕ) → k < n →
    each_at one (n - k) earlier ws ≡ (one_more_at one earlier ws >>= λ y. each_at one (n - (k + 1)) y.0 y.1)
turned one n k earlier ws h = rw (let more : n - k ≡ suc (n - (k + 1)) = omega arith in more) (taken one (n - (k + 1)) (one ws) earlier)

pub each_goes : {X : Type 0} (one : Reading X) (n k : ℕ) (earlier items : List X) (ws us : List ℕ) → k < n → one_more_at one earlier ws ≡ Some (items, us) →
    each_at one (n - k) earlier ws ≡ each_at one (n - (k + 1)) items us
each_goes {X} one n k earlier items ws us h e = turned one n k earlier ws h ∙ ap (λ (r : Read (List X)). r >>= λ y. each_at one (n - (k + 1)) y.0 y.1) e

pub each_fails : {X : Type 0} (one : Reading X) (n k : ℕ) (earlier : List X) (ws : List ℕ) (error : ReadError) → k < n →
    Fails error (one_more_at one earlier ws) → Fails error (each_at one (n - k) earlier ws)
each_fails {X} one n k earlier ws NoMemory h f = tt
each_fails {X} one n k earlier ws NoSpelling h f = turned one n k earlier ws h ∙ ap (λ (r : Read (List X)). r >>= λ y. each_at one (n - (k + 1)) y.0 y.1) f

pub each_done : {X : Type 0} (one : Reading X) (n : ℕ) (earlier : List X) (ws : List ℕ) → each_at one (n - n) earlier ws ≡ Some (earlier, ws)
each_done one n earlier ws = rw (let e : n - n ≡ 0 = omega arith in e) refl
