-- Reports taken from the piles, one by one.
use Rattle.std.proofs.Common.{◌≡◌, ◌∙◌, refl, sym, ap, subst, ℕ, suc, ◌+◌, ◌<◌, List, [], ◌∷◌, ◌++◌, map, drop, length, arith, append_assoc, append-nil}
use Rattle.std.proofs.Common.{length-append}
use Rattle.std.proofs.lemmas.List.{map_push}
use Rattle.cj_records.proofs.Heads.{head_or, tail_of}
use Rattle.cj_records.specs.Chains.{alone_each, dealt}
use Rattle.cj_roles.specs.Piles.{ArePiles, IsFirst, TakesFirst}
use Rattle.cj_roles.proofs.Shares.{shares, dealt_alone, take_first, put_first}

module _ {A : Type 0} where
  -- the piles by the shares of their number
  pub as_shares : (n : ℕ) (xs : List A) (piles : List (List A)) → length piles ≡ n → dealt (length piles) (alone_each xs) ≡ piles → shares n xs ≡ piles
  as_shares n xs piles e h = sym (dealt_alone n xs) ∙ ap (λ m. dealt m (alone_each xs)) (sym e) ∙ h

  pub from_shares : (n : ℕ) (xs : List A) (piles : List (List A)) → length piles ≡ suc n → shares (suc n) xs ≡ piles → ArePiles xs piles
  from_shares n xs piles e h = record { some = omega (arith, e); are = ap (λ m. dealt m (alone_each xs)) e ∙ dealt_alone (suc n) xs ∙ h }

  -- what is taken was the first of all
  pub taken : (x : A) (old new : List (List A)) (y : A) (ys : List A) → TakesFirst x old new → ArePiles (y ∷ ys) old → (y ≡ x) × ArePiles ys new
  unfolding head_or tail_of
  taken x old new y ys t h =
      let n = length t.1 in
      let all : ArePiles (y ∷ ys) ((x ∷ t.0) ∷ t.1) = subst (ArePiles (y ∷ ys)) t.2 h in
      let both = take_first n y ys (x ∷ t.0) t.1 (as_shares (suc n) (y ∷ ys) ((x ∷ t.0) ∷ t.1) refl all.are) in
      let pile : t.0 ≡ _ = ap tail_of both.0 in (
        sym (ap (head_or x) both.0),
        subst (ArePiles ys) (sym t.3)
            (from_shares n ys (t.1 ++ t.0 ∷ []) (omega (arith, length-append t.1 (t.0 ∷ []))) (both.1 ∙ ap (λ l. t.1 ++ l ∷ []) (sym pile))),
      )

  pub put_back : (x : A) (old new : List (List A)) (xs : List A) → TakesFirst x old new → ArePiles xs new → ArePiles (x ∷ xs) old
  put_back x old new xs t h =
      let n = length t.1 in
      let some : length (t.1 ++ t.0 ∷ []) ≡ suc n = omega (arith, length-append t.1 (t.0 ∷ [])) in
      let all : ArePiles xs (t.1 ++ t.0 ∷ []) = subst (ArePiles xs) t.3 h in
      subst (ArePiles (x ∷ xs)) (sym t.2)
      (from_shares n (x ∷ xs) ((x ∷ t.0) ∷ t.1) refl (put_first n x xs t.0 t.1 (as_shares (suc n) xs (t.1 ++ t.0 ∷ []) some all.are)))

  -- the first of some reports is the first of the piles
  pub is_first : (x : A) (xs : List A) (piles : List (List A)) → ArePiles (x ∷ xs) piles → IsFirst x piles
  is_first x xs [] h = let no = h.some in absurd (omega (arith, no))
  is_first x xs (p ∷ ps) h =
      let both = take_first (length ps) x xs p ps (as_shares (suc (length ps)) (x ∷ xs) (p ∷ ps) refl h.are) in
      (_, ps, λ i. both.0 i ∷ ps)

  -- ---- between two reports

  -- so many reports are taken, and the piles have those that are left
  pub record Gathering (count taken : ℕ) (reports : List A) (all piles : List (List A)) : Type 0 where
    pub left : List A
    pub are_left : ArePiles left piles
    pub counted : length reports ≡ taken
    pub count_is : taken + length left ≡ count
    pub goes_on : (more : List A) → ArePiles more piles → ArePiles (reports ++ more) all

  pub gathers_none : (count : ℕ) (all : List (List A)) (xs : List A) → ArePiles xs all → length xs ≡ count → Gathering count 0 [] all all
  gathers_none count all xs h e = record { left = xs; are_left = h; counted = refl; count_is = omega (arith, e); goes_on = λ more k. k }

  pub gathers_first : (count taken : ℕ) (reports : List A) (all piles : List (List A)) → Gathering count taken reports all piles → taken < count →
      (x : A) × IsFirst x piles
  gathers_first count taken reports all piles h lt = first h.left h.are_left h.count_is
    where
      first : (left : List A) → ArePiles left piles → taken + length left ≡ count → (x : A) × IsFirst x piles
      first [] k e = absurd (omega (arith, e, lt))
      first (x ∷ xs) k e = (x, is_first x xs piles k)

  pub gathers_more : (count index : ℕ) (reports : List A) (all piles : List (List A)) → Gathering count index reports all piles → index < count
      → (x : A) (new : List (List A)) → TakesFirst x piles new → Gathering count (index + 1) (reports ++ x ∷ []) all new
  gathers_more count index reports all piles h lt x new t = more h.left h.are_left h.count_is
    where
      more : (left : List A) → ArePiles left piles → index + length left ≡ count → Gathering count (index + 1) (reports ++ x ∷ []) all new
      more [] k e = absurd (omega (arith, e, lt))
      more (y ∷ ys) k e = let both = taken x piles new y ys t k in record {
        left = ys;
        are_left = both.1;
        counted = let c = h.counted in omega (arith, c, length-append reports (x ∷ []));
        count_is = omega (arith, e);
        goes_on = λ later z. subst (λ l. ArePiles l all) (sym (append_assoc reports (x ∷ []) later)) (h.goes_on (x ∷ later) (put_back x piles new later t z));
      }

  pub gathers_all : (count : ℕ) (reports : List A) (all piles : List (List A)) → Gathering count count reports all piles →
      ArePiles reports all × (length reports ≡ count)
  gathers_all count reports all piles h = (last h.left h.are_left h.count_is, h.counted)
    where
      last : (left : List A) → ArePiles left piles → count + length left ≡ count → ArePiles reports all
      last [] k e = subst (λ l. ArePiles l all) (append-nil reports) (h.goes_on [] k)
      last (x ∷ xs) k e = absurd (omega (arith, e))
