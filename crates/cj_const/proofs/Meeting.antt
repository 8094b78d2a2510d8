-- Rows that meet.
use Rattle.std.proofs.Common.{◌≡◌, ℕ, zero, suc, ◌+◌, ◌<◌, ◌≤◌, Bool, true, false, cond, List, [], ◌∷◌, ◌++◌, length, drop, get_or, Option, Some, None, refl}
use Rattle.std.proofs.Common.{sym, ap, ap₂, ◌∙◌, ⊎_elim, arith, append_assoc}
use Rattle.std.specs.Prelude.{ℤ, ◌&&◌, count_by, if◌then◌else◌}
use Rattle.std.proofs.lemmas.Option.{none-some, same_Some}
use Rattle.std.proofs.lemmas.Bool.{cases_Bool, and_parts, and_cases, cond-true, cond-false}
use Rattle.std.proofs.lemmas.Bool.Decides.{Decides-int_eq}
use Rattle.std.proofs.lemmas.List.Sums.{sum_by-cons}
use Rattle.std.proofs.lemmas.List.{append-nil, drop_all}
use Rattle.cj_const.specs.Knowledge.{known}
use Rattle.cj_const.specs.Search.{TellsNoMore, agrees, is_within, kept_slot, met, is_known}
use Rattle.cj_const.proofs.Rows.{drop-at}

-- ---- the loops

within-next : (row others : List (Option ℤ)) (i : ℕ) (d e : Option ℤ) → i < length row → length others ≡ length row →
    is_within (drop i row) (drop i others) ≡ agrees (get_or row i d) (get_or others i e) && is_within (drop (i + 1) row) (drop (i + 1) others)
unfolding is_within
within-next row others i d e h count = ap₂ is_within (drop-at row i d h) (drop-at others i e (omega arith))

pub within-more : (row others : List (Option ℤ)) (i : ℕ) (d e : Option ℤ) (same all : Bool) → i < length row → length others ≡ length row →
    same ≡ agrees (get_or row i d) (get_or others i e) → same ≡ true → is_within (drop i row) (drop i others) ≡ all →
    is_within (drop (i + 1) row) (drop (i + 1) others) ≡ all
within-more row others i d e same all h count is yes_ left =
    ap (λ b. b && is_within (drop (i + 1) row) (drop (i + 1) others)) (sym yes_ ∙ is) ∙ sym (within-next row others i d e h count) ∙ left

pub within-fails : (row others : List (Option ℤ)) (i : ℕ) (d e : Option ℤ) (same all : Bool) → i < length row → length others ≡ length row →
    same ≡ agrees (get_or row i d) (get_or others i e) → same ≡ false → is_within (drop i row) (drop i others) ≡ all → false ≡ all
within-fails row others i d e same all h count is no_ left =
    ap (λ b. b && is_within (drop (i + 1) row) (drop (i + 1) others)) (sym no_ ∙ is) ∙ sym (within-next row others i d e h count) ∙ left

pub within-all : (row others : List (Option ℤ)) (i : ℕ) (all : Bool) → length row ≤ i → is_within (drop i row) (drop i others) ≡ all → true ≡ all
unfolding is_within
within-all row others i all h left = sym (ap (λ (xs : List (Option ℤ)). is_within xs (drop i others)) (drop_all i row h)) ∙ left

pub met-more : (row others : List (Option ℤ)) (i : ℕ) (d e x : Option ℤ) (made new all : List (Option ℤ)) → i < length row → length others ≡ length row →
    x ≡ kept_slot (get_or row i d) (get_or others i e) → new ≡ made ++ x ∷ [] → made ++ met (drop i row) (drop i others) ≡ all →
    new ++ met (drop (i + 1) row) (drop (i + 1) others) ≡ all
unfolding met
met-more row others i d e x made new all h count is pushed left =
    let rest = met (drop (i + 1) row) (drop (i + 1) others) in
    ap (λ (xs : List (Option ℤ)). xs ++ rest) pushed
    ∙ append_assoc made (x ∷ []) rest
    ∙ ap (λ (y : Option ℤ). made ++ y ∷ rest) is
    ∙ sym (ap₂ (λ (xs ys : List (Option ℤ)). made ++ met xs ys) (drop-at row i d h) (drop-at others i e (omega arith)))
    ∙ left

pub met-all : (row others : List (Option ℤ)) (i : ℕ) (made all : List (Option ℤ)) → length row ≤ i → made ++ met (drop i row) (drop i others) ≡ all → made ≡ all
unfolding met
met-all row others i made all h left =
    sym (append-nil made) ∙ sym (ap (λ (xs : List (Option ℤ)). made ++ met xs (drop i others)) (drop_all i row h)) ∙ left

-- ---- slots

pub slot-agrees : (s o : Option ℤ) (v : ℤ) → agrees s o ≡ true → s ≡ Some v → o ≡ Some v
unfolding agrees
slot-agrees None o v yes_ e = absurd (none-some v e)
slot-agrees (Some w) None v yes_ e = absurd (cc)
slot-agrees (Some w) (Some u) v yes_ e = ap Some (sym ((Decides-int_eq w u).0 yes_)) ∙ e

pub same-agrees : (s o : Option ℤ) (v : ℤ) → s ≡ Some v → o ≡ Some v → agrees s o ≡ true
unfolding agrees
same-agrees None o v e e' = refl
same-agrees (Some w) None v e e' = absurd (none-some v e')
same-agrees (Some w) (Some u) v e e' = (Decides-int_eq w u).1 (same_Some w v e ∙ sym (same_Some u v e'))

if-some : (b : Bool) (s : Option ℤ) (v : ℤ) → (if b then s else None) ≡ Some v → (b ≡ true) × (s ≡ Some v)
if-some true s v e = (refl, e)
if-some false s v e = absurd (none-some v e)

kept-both : (s o : Option ℤ) (v : ℤ) → kept_slot s o ≡ Some v → (s ≡ Some v) × (o ≡ Some v)
unfolding kept_slot
kept-both s o v e =
    let h = if-some (agrees s o) s v e in
    (h.1, slot-agrees s o v h.0 h.1)

both-kept : (s o : Option ℤ) (v : ℤ) → s ≡ Some v → o ≡ Some v → kept_slot s o ≡ Some v
unfolding kept_slot
both-kept s o v e e' = cond-true (agrees s o) s None (same-agrees s o v e e') ∙ e

-- ---- rows

pub length-met : (row others : List (Option ℤ)) → length others ≡ length row → length (met row others) ≡ length row
unfolding met
length-met [] others count = refl
length-met (s ∷ row) [] count = absurd (omega arith)
length-met (s ∷ row) (o ∷ others) count = ap suc (length-met row others (omega arith))

met-at : (row others : List (Option ℤ)) (r : ℕ) → length others ≡ length row →
    get_or (met row others) r None ≡ kept_slot (get_or row r None) (get_or others r None)
unfolding met kept_slot agrees
met-at [] [] r count = refl
met-at [] (o ∷ others) r count = absurd (omega arith)
met-at (s ∷ row) [] r count = absurd (omega arith)
met-at (s ∷ row) (o ∷ others) zero count = refl
met-at (s ∷ row) (o ∷ others) (suc r) count = met-at row others r (omega arith)

-- what two rows both tell is told by each
pub met-first : (row others : List (Option ℤ)) → length others ≡ length row → TellsNoMore (known (met row others)) (known row)
unfolding known
met-first row others count r v e = (kept-both (get_or row r None) (get_or others r None) v (sym (met-at row others r count) ∙ e)).0

pub met-second : (row others : List (Option ℤ)) → length others ≡ length row → TellsNoMore (known (met row others)) (known others)
unfolding known
met-second row others count r v e = (kept-both (get_or row r None) (get_or others r None) v (sym (met-at row others r count) ∙ e)).1

-- and all that each tells is told by both
pub met-tells : (row others : List (Option ℤ)) (r : ℕ) (v : ℤ) → length others ≡ length row → known row r ≡ Some v → known others r ≡ Some v →
    known (met row others) r ≡ Some v
unfolding known
met-tells row others r v count e e' = met-at row others r count ∙ both-kept (get_or row r None) (get_or others r None) v e e'

within-at : (row others : List (Option ℤ)) (r : ℕ) → length others ≡ length row → is_within row others ≡ true →
    agrees (get_or row r None) (get_or others r None) ≡ true
unfolding is_within agrees
within-at [] others r count yes_ = refl
within-at (s ∷ row) [] r count yes_ = absurd (omega arith)
within-at (s ∷ row) (o ∷ others) zero count yes_ = (and_parts (agrees s o) (is_within row others) yes_).0
within-at (s ∷ row) (o ∷ others) (suc r) count yes_ = within-at row others r (omega arith) (and_parts (agrees s o) (is_within row others) yes_).1

pub within-tells : (row others : List (Option ℤ)) → length others ≡ length row → is_within row others ≡ true → TellsNoMore (known row) (known others)
unfolding known
within-tells row others count yes_ r v e = slot-agrees (get_or row r None) (get_or others r None) v (within-at row others r count yes_) e

-- ---- a row that tells less knows fewer registers

abbrev one_if : Bool → ℕ
one_if b = cond b 1 0

slot-le : (s o : Option ℤ) → one_if (is_known (kept_slot s o)) ≤ one_if (is_known s)
unfolding kept_slot is_known
slot-le s o = ⊎_elim
    (λ yes_. let e = ap (λ z. one_if (is_known z)) (cond-true (agrees s o) s None yes_) in omega arith)
    (λ no_. let e = ap (λ z. one_if (is_known z)) (cond-false (agrees s o) s None no_) in omega arith)
    (cases_Bool (agrees s o))

slot-lt : (s o : Option ℤ) → agrees s o ≡ false → one_if (is_known (kept_slot s o)) < one_if (is_known s)
unfolding kept_slot is_known agrees
slot-lt None o no_ = absurd (cc)
slot-lt (Some v) o no_ =
    let e = ap (λ z. one_if (is_known z)) (cond-false (agrees (Some v) o) (Some v) None no_) in
    omega arith

met-le : (row others : List (Option ℤ)) → length others ≡ length row → count_by is_known (met row others) ≤ count_by is_known row
unfolding met
met-le [] others count = omega arith
met-le (s ∷ row) [] count = absurd (omega arith)
met-le (s ∷ row) (o ∷ others) count =
    let one = slot-le s o in
    let rest = met-le row others (omega arith) in
    let new = sum_by-cons (λ z. one_if (is_known z)) (kept_slot s o) (met row others) in
    let old = sum_by-cons (λ z. one_if (is_known z)) s row in
    omega arith

pub met-fewer : (row others : List (Option ℤ)) → length others ≡ length row → is_within row others ≡ false →
    count_by is_known (met row others) < count_by is_known row
unfolding met is_within
met-fewer [] others count no_ = absurd (cc)
met-fewer (s ∷ row) [] count no_ = absurd (omega arith)
met-fewer (s ∷ row) (o ∷ others) count no_ =
    let rest = met-le row others (omega arith) in
    let new = sum_by-cons (λ z. one_if (is_known z)) (kept_slot s o) (met row others) in
    let old = sum_by-cons (λ z. one_if (is_known z)) s row in
    ⊎_elim
    (λ here. let one = slot-lt s o here in omega arith)
    (λ later.
    let one = slot-le s o in
    let fewer = met-fewer row others (omega arith) later in
    omega arith)
    (and_cases (agrees s o) (is_within row others) no_)
