-- What several reads or writes in a row did to known bytes.
use Rattle.std.proofs.Common.{◌≡◌, ◌∙◌, sym, ap, refl, ℕ, zero, suc, ◌+◌, ◌≤◌, List, [], ◌∷◌, ◌++◌, ◌-◌, length, take, drop, Option, Some, None, append_assoc}
use Rattle.std.proofs.Common.{arith}
use Rattle.std.proofs.lemmas.List.{take-append-drop, take-append-le, take_all, length-drop, length-take-le, drop-drop}
use Rattle.std.specs.Io.KnownBytes.{Appends, Consumes}
use Rattle.std.proofs.KnownBytes.{Consumes-trans}
use Rattle.cj_io.specs.Reading.{HasTaken}

pub Appends-more : (old mid new : Option (List ℕ)) (xs ys zs : List ℕ) → Appends old mid xs → Appends mid new ys → zs ≡ xs ++ ys → Appends old new zs
Appends-more None mid new xs ys zs before after is = tt
Appends-more (Some bytes) None new xs ys zs before after is = absurd before
Appends-more (Some bytes) (Some more) None xs ys zs before after is = absurd after
Appends-more (Some bytes) (Some more) (Some last) xs ys zs before after is =
    after ∙ ap (λ r. r ++ ys) before ∙ append_assoc bytes xs ys ∙ ap (λ r. bytes ++ r) (sym is)

take_nil : (n : ℕ) → ◌≡◌ {A = List ℕ} (take n []) []
take_nil zero = refl
take_nil (suc n) = refl

take_two : (w n : ℕ) (xs : List ℕ) → take (w + n) xs ≡ take w xs ++ take n (drop w xs)
take_two zero n xs = ap (λ k. take k xs) (omega arith)
take_two (suc w) n [] = take_nil (suc w + n) ∙ sym (take_nil n)
take_two (suc w) n (x ∷ xs) =
    let next : suc w + n ≡ suc (w + n) = omega arith in
    ap (λ k. take k (x ∷ xs)) next ∙ ap (λ r. x ∷ r) (take_two w n xs)

-- a prefix, cut in two
pub take_split : (w n : ℕ) (xs : List ℕ) → take (w + n) xs ≡ take w xs ++ take n (take (length xs - w) (drop w xs))
take_split w n xs =
    let all : take (length xs - w) (drop w xs) ≡ drop w xs = take_all (length xs - w) (drop w xs) (simp length-drop (omega arith)) in
    take_two w n xs ∙ ap (λ r. take w xs ++ take n r) (sym all)

-- the piece that a read moved into the buffer, and the bytes behind it
pub piece-read : (xs mid buf : List ℕ) (at n : ℕ) → n ≤ length (drop at xs) → mid ≡ take n (take (length xs - at) (drop at xs)) →
    drop at xs ≡ take n (mid ++ drop n buf) ++ drop (at + n) xs
piece-read xs mid buf at n within is =
    let rest = drop at xs in
    let all : take (length xs - at) rest ≡ rest = take_all (length xs - at) rest (simp length-drop (omega arith)) in
    let same : mid ≡ take n rest = is ∙ ap (λ r. take n r) all in
    let long : length mid ≡ n = ap length same ∙ length-take-le n rest within in
    let front : take n (mid ++ drop n buf) ≡ mid = take-append-le n mid (drop n buf) (omega (arith, long)) ∙ take_all n mid (omega (arith, long)) in
    let behind : drop (at + n) xs ≡ drop n rest = sym (drop-drop n at xs) in
    sym (ap (λ f. f ++ drop (at + n) xs) (front ∙ same) ∙ ap (λ d. take n rest ++ d) behind ∙ take-append-drop n rest)

-- what was taken, and then some more
pub taken_more : (given mid left : Option (List ℕ)) (taken more : List ℕ) → Consumes given mid taken → Consumes mid left more → HasTaken given left
taken_more given mid left taken more first second = (taken ++ more, Consumes-trans given mid left taken more first second)
