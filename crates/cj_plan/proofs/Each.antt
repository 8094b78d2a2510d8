-- Lists that grow by what each item gives.
use Rattle.std.proofs.Common.{◌≡◌, ℕ, zero, suc, ◌+◌, ◌<◌, ◌≤◌, List, [], ◌∷◌, ◌++◌, length, take, get_or, refl, sym, ap, ◌∙◌, append_assoc, append-nil}
use Rattle.std.proofs.Common.{length-append, arith}
use Rattle.std.proofs.lemmas.List.{take_more, length-take-le}
use Rattle.cj_plan.specs.Plan.{each_from}

module _ {A B : Type 0} (give : ℕ → A → List B) where
  pub each_push : (n : ℕ) (xs : List A) (x : A) → each_from give n (xs ++ x ∷ []) ≡ each_from give n xs ++ give (n + length xs) x
  each_push n [] x = let z : n ≡ n + zero = omega arith in append-nil (give n x) ∙ ap (λ k. give k x) z
  each_push n (y ∷ xs) x =
      let z : suc n + length xs ≡ n + suc (length xs) = omega arith in
      ap (λ rest. give n y ++ rest) (each_push (suc n) xs x ∙ ap (λ k. each_from give (suc n) xs ++ give k x) z)
      ∙ sym (append_assoc (give n y) (each_from give (suc n) xs) (give (n + suc (length xs)) x))

  -- one more of the first items
  pub each_more : (xs : List A) (i : ℕ) (d : A) → i < length xs → each_from give 0 (take (i + 1) xs) ≡ each_from give 0 (take i xs) ++ give i (get_or xs i d)
  each_more xs i d h =
      let l = length-take-le i xs (omega arith) in
      let z : 0 + length (take i xs) ≡ i = omega arith in
      ap (each_from give 0) (take_more xs i d h)
      ∙ (each_push 0 (take i xs) (get_or xs i d) ∙ ap (λ k. each_from give 0 (take i xs) ++ give k (get_or xs i d)) z)

  pub each_at : (xs : List A) (i : ℕ) (x : A) → i < length xs → x ≡ get_or xs i x → each_from give 0 (take (i + 1) xs) ≡ each_from give 0 (take i xs)
      ++ give i x
  each_at xs i x h e = each_more xs i x h ∙ ap (λ y. each_from give 0 (take i xs) ++ give i y) (sym e)

module _ {A : Type 0} where
  pub take_again : (k : ℕ) (xs ys : List A) → take k (take k xs ++ ys) ≡ take k (xs ++ ys)
  take_again zero xs ys = refl
  take_again (suc k) [] ys = refl
  take_again (suc k) (x ∷ xs) ys = ap (λ zs. x ∷ zs) (take_again k xs ys)

  pub take_short : (k : ℕ) (xs : List A) → length xs ≤ k → take k xs ≡ xs
  take_short zero [] h = refl
  take_short zero (x ∷ xs) h = absurd (omega arith)
  take_short (suc k) [] h = refl
  take_short (suc k) (x ∷ xs) h = ap (λ zs. x ∷ zs) (take_short k xs (omega arith))

  -- what a full list takes in goes
  pub take_full : (k : ℕ) (xs ys : List A) → length xs ≡ k → take k (xs ++ ys) ≡ xs
  take_full zero [] ys h = refl
  take_full zero (x ∷ xs) ys h = absurd (omega arith)
  take_full (suc k) [] ys h = absurd (omega arith)
  take_full (suc k) (x ∷ xs) ys h = ap (λ zs. x ∷ zs) (take_full k xs ys (omega arith))

  pub take_few : (k : ℕ) (xs : List A) → length (take k xs) ≤ k
  take_few zero xs = omega arith
  take_few (suc k) [] = omega arith
  take_few (suc k) (x ∷ xs) = let l = take_few k xs in omega arith

  -- a list with a limit
  pub room_none : (k : ℕ) (xs ys : List A) → ys ≡ [] → length xs ≤ k → xs ≡ take k (xs ++ ys)
  room_none k xs ys e h = sym (ap (λ zs. take k (xs ++ zs)) e ∙ (ap (take k) (append-nil xs) ∙ take_short k xs h))

  pub room_one : (k : ℕ) (xs : List A) (x : A) → length xs < k → xs ++ x ∷ [] ≡ take k (xs ++ x ∷ [])
  room_one k xs x h = let l = length-append xs (x ∷ []) in sym (take_short k (xs ++ x ∷ []) (omega arith))

  pub room_full : (k : ℕ) (xs ys : List A) → k ≤ length xs → length xs ≤ k → xs ≡ take k (xs ++ ys)
  room_full k xs ys g h = sym (take_full k xs ys (omega arith))

  pub room_again : (k : ℕ) (xs ys zs us vs : List A) → us ≡ take k (xs ++ ys) → vs ≡ take k (us ++ zs) → vs ≡ take k (xs ++ (ys ++ zs))
  room_again k xs ys zs us vs e f = f ∙ (ap (λ w. take k (w ++ zs)) e ∙ (take_again k (xs ++ ys) zs ∙ ap (take k) (append_assoc xs ys zs)))

  pub room_more : (k : ℕ) (xs ys us vs : List A) → us ≡ take k xs → vs ≡ take k (us ++ ys) → vs ≡ take k (xs ++ ys)
  room_more k xs ys us vs e f = f ∙ (ap (λ w. take k (w ++ ys)) e ∙ take_again k xs ys)
