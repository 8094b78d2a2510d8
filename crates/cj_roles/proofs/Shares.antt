-- Calls that are dealt to callers, one by one, and their reports put together again.
use Rattle.std.proofs.Common.{◌≡◌, ◌∙◌, refl, sym, ap, subst, ℕ, zero, suc, ◌+◌, ◌-◌, ◌<◌, ◌≤◌, List, [], ◌∷◌, ◌++◌, map, length, drop, get_or, arith}
use Rattle.std.proofs.Common.{length-append}
use Rattle.std.specs.List.{AllZip}
use Rattle.std.proofs.lemmas.List.{map_push}
use Rattle.cj_ir.proofs.Zips.{AllZip-push}
use Rattle.cj_records.proofs.Heads.{head_or, tail_of}
use Rattle.cj_records.specs.Chains.{flat, alone_each, share, numbers_from, dealt}

pub flat_alone : {A : Type 0} (xs : List A) → flat (alone_each xs) ≡ xs
unfolding flat alone_each
flat_alone [] = refl
flat_alone (x ∷ xs) = ap (λ ys. x ∷ ys) (flat_alone xs)

pub share_alone : {A : Type 0} (c k : ℕ) (xs : List A) → flat (share c k (alone_each xs)) ≡ share c k xs
unfolding flat alone_each share
share_alone c k [] = refl
share_alone c zero (x ∷ xs) = ap (λ ys. x ∷ ys) (share_alone c (c - 1) xs)
share_alone c (suc k) (x ∷ xs) = share_alone c k xs

pub share_map : {A B : Type 0} (f : A → B) (c k : ℕ) (xs : List A) → share c k (map f xs) ≡ map f (share c k xs)
unfolding share
share_map f c k [] = refl
share_map f c zero (x ∷ xs) = ap (λ ys. f x ∷ ys) (share_map f c (c - 1) xs)
share_map f c (suc k) (x ∷ xs) = share_map f c k xs

-- what falls to each of c callers, where each call is dealt alone
unfoldable pub shares : {A : Type 0} → ℕ → List A → List (List A)
shares c xs = map (λ k. share c k xs) (numbers_from 0 c)

pub map_same : {A B : Type 0} (f g : A → B) → ((x : A) → f x ≡ g x) → (xs : List A) → map f xs ≡ map g xs
map_same f g h [] = refl
map_same f g h (x ∷ xs) = λ i. h x i ∷ map_same f g h xs i

pub dealt_alone : {A : Type 0} (c : ℕ) (xs : List A) → dealt c (alone_each xs) ≡ shares c xs
unfolding dealt shares
dealt_alone c xs = map_same (λ k. flat (share c k (alone_each xs))) (λ k. share c k xs) (λ k. share_alone c k xs) (numbers_from 0 c)

-- ---- the next call of a caller

pub share_drop : {A : Type 0} (c k : ℕ) (xs : List A) → share c k xs ≡ share c 0 (drop k xs)
unfolding share
share_drop c zero xs = refl
share_drop c (suc k) [] = refl
share_drop c (suc k) (x ∷ xs) = share_drop c k xs

pub share_next : {A : Type 0} (c at : ℕ) (xs : List A) (x : A) → 0 < c → at < length xs → x ≡ get_or xs at x →
    share c 0 (drop at xs) ≡ x ∷ share c 0 (drop (at + c) xs)
unfolding share
share_next c at [] x some lt is = absurd (omega (arith, lt))
share_next zero zero (y ∷ ys) x some lt is = absurd (omega (arith, some))
share_next (suc n) zero (y ∷ ys) x some lt is =
    let e : suc n - 1 ≡ n = omega arith in
    let far : 0 + suc n ≡ suc n = omega arith in
    λ i. sym is i ∷ (ap (λ k. share (suc n) k ys) e ∙ share_drop (suc n) n ys ∙ ap (λ m. share (suc n) 0 (drop m (y ∷ ys))) (sym far)) i
share_next c (suc at) (y ∷ ys) x some lt is =
    share_next c at ys x some (omega (arith, lt)) is
    ∙ (let e : suc at + c ≡ suc (at + c) = omega arith in ap (λ m. x ∷ share c 0 (drop m (y ∷ ys))) (sym e))

-- ---- the first call of all

pub numbers_next : (k n : ℕ) → numbers_from k (suc n) ≡ numbers_from k n ++ (k + n) ∷ []
unfolding numbers_from
numbers_next k zero = let e : k ≡ k + 0 = omega arith in ap (λ m. m ∷ []) e
numbers_next k (suc n) = let e : (k + 1) + n ≡ k + suc n = omega arith in
    ap (λ l. k ∷ l) (numbers_next (k + 1) n ∙ ap (λ m. numbers_from (k + 1) n ++ m ∷ []) e)

map_next : {B : Type 0} (f : ℕ → B) (k n : ℕ) → map f (numbers_from (k + 1) n) ≡ map (λ j. f (suc j)) (numbers_from k n)
unfolding numbers_from
map_next f k zero = refl
map_next f k (suc n) = let e : k + 1 ≡ suc k = omega arith in λ i. f (e i) ∷ map_next f (k + 1) n i

-- two lists that end with an item are equal where their fronts and last items are
snoc_is : {A : Type 0} (xs ys : List A) (x y : A) → xs ++ x ∷ [] ≡ ys ++ y ∷ [] → (xs ≡ ys) × (x ≡ y)
unfolding head_or tail_of
snoc_is [] [] x y e = (refl, ap (head_or x) e)
snoc_is [] (z ∷ ys) x y e = let l : 0 ≡ length (ys ++ y ∷ []) = ap length (ap tail_of e) in absurd (omega (arith, l, length-append ys (y ∷ [])))
snoc_is (z ∷ xs) [] x y e = let l : length (xs ++ x ∷ []) ≡ 0 = ap length (ap tail_of e) in absurd (omega (arith, l, length-append xs (x ∷ [])))
snoc_is (z ∷ xs) (w ∷ ys) x y e = let h = snoc_is xs ys x y (ap tail_of e) in (λ i. ap (head_or z) e i ∷ h.0 i, h.1)

module _ {A : Type 0} (n : ℕ) where
  others : List A → List (List A)
  others xs = map (λ k. share (suc n) k xs) (numbers_from 0 n)

  shares_cons : (x : A) (xs : List A) → shares (suc n) (x ∷ xs) ≡ (x ∷ share (suc n) n xs) ∷ others xs
  unfolding shares share numbers_from others
  shares_cons x xs = let e : suc n - 1 ≡ n = omega arith in λ i. (x ∷ share (suc n) (e i) xs) ∷ map_next (λ k. share (suc n) k (x ∷ xs)) 0 n i

  shares_last : (xs : List A) → shares (suc n) xs ≡ others xs ++ share (suc n) n xs ∷ []
  unfolding shares others
  shares_last xs = let e : 0 + n ≡ n = omega arith in
      ap (map (λ k. share (suc n) k xs)) (numbers_next 0 n ∙ ap (λ m. numbers_from 0 n ++ m ∷ []) e)
      ∙ map_push (λ k. share (suc n) k xs) (numbers_from 0 n) n

  -- the first report is the first pile's, which comes last from then on
  pub take_first : (x : A) (xs p : List A) (ps : List (List A)) → shares (suc n) (x ∷ xs) ≡ p ∷ ps →
      (p ≡ x ∷ share (suc n) n xs) × (shares (suc n) xs ≡ ps ++ share (suc n) n xs ∷ [])
  unfolding head_or tail_of others
  take_first x xs p ps e =
      let both = sym (shares_cons x xs) ∙ e in
      (sym (ap (head_or p) both), shares_last xs ∙ ap (λ l. l ++ share (suc n) n xs ∷ []) (ap tail_of both))

  -- a report before the others, from the pile that came last
  pub put_first : (x : A) (xs q : List A) (ps : List (List A)) → shares (suc n) xs ≡ ps ++ q ∷ [] → shares (suc n) (x ∷ xs) ≡ (x ∷ q) ∷ ps
  put_first x xs q ps e =
      let both = snoc_is (others xs) ps (share (suc n) n xs) q (sym (shares_last xs) ∙ e) in
      shares_cons x xs ∙ (λ i. (x ∷ both.1 i) ∷ both.0 i)

-- ---- piles of that many reports are those of some list

abbrev AreAsLong : {A B : Type 0} → List (List A) → List (List B) → Type 0
AreAsLong xss yss = AllZip (λ xs ys. length xs ≡ length ys) xss yss

-- no calls fill no pile
no_reports : (A : Type 0) {B : Type 0} (c : ℕ) (ks : List ℕ) (piles : List (List B)) → AreAsLong (map (λ k. share {A = A} c k []) ks) piles →
    map (λ k. share {A = B} c k []) ks ≡ piles
unfolding share
no_reports A c [] [] h = refl
no_reports A c [] (p ∷ ps) h = absurd h
no_reports A c (k ∷ ks) [] h = absurd h
no_reports A c (k ∷ ks) ([] ∷ ps) h = ap (λ l. [] ∷ l) (no_reports A c ks ps h.1)
no_reports A c (k ∷ ks) ((x ∷ p) ∷ ps) h = let e : 0 ≡ suc (length p) = h.0 in absurd (omega (arith, e))

pub piled : {A B : Type 0} (n : ℕ) (calls : List A) (piles : List (List B)) → AreAsLong (shares (suc n) calls) piles →
    (reports : List B) × (shares (suc n) reports ≡ piles) × (length reports ≡ length calls)
unfolding shares
piled {A = A} n [] piles h = ([], no_reports A (suc n) (numbers_from 0 (suc n)) piles h, refl)
piled {B = B} n (x ∷ xs) piles h = next (λ ps k. piled n xs ps k) piles (subst (λ l. AreAsLong l piles) (shares_cons n x xs) h)
  where
    next : ((ps : List (List B)) → AreAsLong (shares (suc n) xs) ps → (reports : List B) × (shares (suc n) reports ≡ ps) × (length reports ≡ length xs))
        → (ps : List (List B)) → AreAsLong ((x ∷ share (suc n) n xs) ∷ others n xs) ps → (reports : List B) × (shares (suc n) reports ≡ ps)
        × (length reports ≡ suc (length xs))
    next more [] h = absurd h
    next more ([] ∷ ps) h = let e : suc (length (share (suc n) n xs)) ≡ 0 = h.0 in absurd (omega (arith, e))
    next more ((y ∷ q) ∷ ps) h =
        let e : suc (length (share (suc n) n xs)) ≡ suc (length q) = h.0 in
        let both = AllZip-push (λ l m. length l ≡ length m) (others n xs) ps (share (suc n) n xs) q h.1 (omega (arith, e)) in
        let r = more (ps ++ q ∷ []) (subst (λ l. AreAsLong l (ps ++ q ∷ [])) (sym (shares_last n xs)) both) in
        (y ∷ r.0, put_first n y r.0 q ps r.1, ap suc r.2)
