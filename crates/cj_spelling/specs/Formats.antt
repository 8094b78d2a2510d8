-- Readings: what is read from the front of some words, one item after the other.
use Rattle.std.specs.Prelude.{ℕ, zero, suc, List, [], ◌∷◌, ◌++◌, Bool, cond, Option, None, Some, nat_lt, nat_le}

-- what was read from the front of some words, with the rest of them
abbrev pub Read : Type 0 → Type 0
Read X = Option (X × List ℕ)

abbrev pub Reading : Type 0 → Type 0
Reading X = List ℕ → Read X

infixl 10 ◌>>=◌
abbrev pub ◌>>=◌ : {X Y : Type 0} → Option X → (X → Option Y) → Option Y
None >>= f = None
(Some x) >>= f = f x

abbrev pub made : {X Y : Type 0} → (X → Y) → Read X → Read Y
made f read = read >>= λ x. Some (f x.0, x.1)

-- what was read, where it passes a test
abbrev pub only : {X : Type 0} → (X → Bool) → Read X → Read X
only test read = read >>= λ x. cond (test x.0) (Some x) None

-- two, three and four items after each other

abbrev pub two_at : {X Y Z : Type 0} → (X → Y → Z) → Reading X → Reading Y → Reading Z
two_at f first second ws = first ws >>= λ x. second x.1 >>= λ y. Some (f x.0 y.0, y.1)

abbrev pub three_at : {A X Y Z : Type 0} → (A → X → Y → Z) → Reading A → Reading X → Reading Y → Reading Z
three_at f first second third ws =
    first ws >>= λ a. second a.1 >>= λ x. third x.1 >>= λ y. Some (f a.0 x.0 y.0, y.1)

abbrev pub four_at : {A B X Y Z : Type 0} →
    (A → B → X → Y → Z) → Reading A → Reading B → Reading X → Reading Y → Reading Z
four_at f first second third fourth ws =
    first ws >>= λ a. second a.1 >>= λ b. third b.1 >>= λ x. fourth x.1 >>= λ y. Some (f a.0 b.0 x.0 y.0, y.1)

-- so many items, behind earlier ones
abbrev pub each_at : {X : Type 0} → Reading X → ℕ → List X → Reading (List X)
each_at one zero earlier ws = Some (earlier, ws)
each_at one (suc n) earlier ws = one ws >>= λ x. each_at one n (earlier ++ x.0 ∷ []) x.1

abbrev pub one_more_at : {X : Type 0} → Reading X → List X → Reading (List X)
one_more_at one earlier ws = one ws >>= λ x. Some (earlier ++ x.0 ∷ [], x.1)

-- a count and so many items
abbrev pub counted_at : {X : Type 0} → Reading ℕ → Reading X → Reading (List X)
counted_at count one ws = count ws >>= λ n. each_at one n.0 [] n.1

-- ---- words

abbrev pub word_at : Reading ℕ
word_at [] = None
word_at (w ∷ ws) = Some (w, ws)

abbrev pub below_at : ℕ → Reading ℕ
below_at bound ws = only (λ w. nat_lt w bound) (word_at ws)

abbrev pub at_most_at : ℕ → Reading ℕ
at_most_at most ws = only (λ w. nat_le w most) (word_at ws)
