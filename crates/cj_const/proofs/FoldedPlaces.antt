-- Places folded one after the other.
use Rattle.std.proofs.Common.{◌≡◌, ℕ, zero, suc, ◌+◌, ◌<◌, List, [], ◌∷◌, ◌++◌, length, take, drop, get_or, Some, refl, sym, ap, ap₂, ◌∙◌, subst, arith}
use Rattle.std.specs.Prelude.{slice_get, slice_set, slice_index_or}
use Rattle.std.proofs.lemmas.Option.{none-some, same_Some, slice_get_within, slice_get-get_or}
use Rattle.cj_ir.proofs.ListReads.{at_index}
use Rattle.cj_draft.specs.declared.facts.Facts.{Facts}
use Rattle.cj_draft.specs.declared.facts.Facts.TheVariants.{Unreached}
use Rattle.cj_draft.specs.declared.code.Place.{Place}
use Rattle.cj_const.specs.Folding.{folded_place, folded_places}

-- the places of which the first ones, so many, are folded
abbrev pub folded_upto : ℕ → List Place → List Facts → ℕ → List Place
folded_upto n places table i = folded_places n (take i places) (take i table) ++ drop i places

pub none-folded : (n : ℕ) (places : List Place) (table : List Facts) → folded_upto n places table 0 ≡ places
unfolding folded_places
none-folded n places table = refl

-- the next place is as it was
pub next-unfolded : (n : ℕ) (places : List Place) (table : List Facts) (i : ℕ) → length table ≡ length places
    → slice_get (folded_upto n places table i) i ≡ slice_get places i
unfolding folded_places
next-unfolded n places table zero count = refl
next-unfolded n [] [] (suc i) count = refl
next-unfolded n [] (facts ∷ table) (suc i) count = absurd (omega arith)
next-unfolded n (place ∷ places) [] (suc i) count = absurd (omega arith)
next-unfolded n (place ∷ places) (facts ∷ table) (suc i) count = next-unfolded n places table i (omega arith)

pub next-folded : (n : ℕ) (places : List Place) (table : List Facts) (i : ℕ) (p : Place) (fs : Facts) → length table ≡ length places
    → slice_get places i ≡ Some p → slice_get table i ≡ Some fs
    → slice_set (folded_upto n places table i) i (folded_place n p fs) ≡ folded_upto n places table (suc i)
unfolding folded_places
next-folded n [] table i p fs count at known = absurd (none-some p at)
next-folded n (place ∷ places) [] i p fs count at known = absurd (none-some fs known)
next-folded n (place ∷ places) (facts ∷ table) zero p fs count at known =
    ap₂ (λ (q : Place) (gs : Facts). folded_place n q gs ∷ places) (sym (same_Some place p at)) (sym (same_Some facts fs known))
next-folded n (place ∷ places) (facts ∷ table) (suc i) p fs count at known =
    ap (λ (made : List Place). folded_place n place facts ∷ made) (next-folded n places table i p fs (omega arith) at known)

-- ---- a list whose first places are folded

pub next-within : (n : ℕ) (places : List Place) (table : List Facts) (i : ℕ) (now : List Place) → length table ≡ length places
    → now ≡ folded_upto n places table i → i < length table → i < length now
next-within n places table i now count is h =
    let place = at_index places i (omega arith) in
    subst (λ (ps : List Place). i < length ps) (sym is)
    (slice_get_within (folded_upto n places table i) i place.0 (next-unfolded n places table i count ∙ place.1))

pub next-place : (n : ℕ) (places : List Place) (table : List Facts) (i : ℕ) (now : List Place) (p : Place) → length table ≡ length places
    → now ≡ folded_upto n places table i → slice_get now i ≡ Some p → slice_get places i ≡ Some p
next-place n places table i now p count is at =
    sym (next-unfolded n places table i count) ∙ ap (λ (ps : List Place). slice_get ps i) (sym is) ∙ at

pub next-step : (n : ℕ) (places : List Place) (table : List Facts) (i : ℕ) (now : List Place) (p x : Place) (fs : Facts)
    → length table ≡ length places → now ≡ folded_upto n places table i → i < length table → slice_get now i ≡ Some p
    → fs ≡ get_or table i fs → x ≡ folded_place n p fs → slice_set now i x ≡ folded_upto n places table (i + 1)
next-step n places table i now p x fs count is h at known made =
    let next : suc i ≡ i + 1 = omega arith in
    let facts : slice_get table i ≡ Some fs = slice_get-get_or table i fs h ∙ ap Some (sym known) in
    ap₂ (λ (ps : List Place) (y : Place). slice_set ps i y) is made
    ∙ next-folded n places table i p fs count (next-place n places table i now p count is at) facts
    ∙ ap (folded_upto n places table) next

-- ---- the place at a label

pub length-folded : (n : ℕ) (places : List Place) (table : List Facts) → length table ≡ length places → length (folded_places n places table) ≡ length places
unfolding folded_places
length-folded n [] table count = refl
length-folded n (place ∷ places) [] count = absurd (omega arith)
length-folded n (place ∷ places) (facts ∷ table) count = ap suc (length-folded n places table (omega arith))

pub get-folded : (n : ℕ) (places : List Place) (table : List Facts) (i : ℕ) (p : Place) → length table ≡ length places → slice_get places i ≡ Some p →
    slice_get (folded_places n places table) i ≡ Some (folded_place n p (slice_index_or table i Unreached))
unfolding folded_places
get-folded n [] table i p count e = absurd (none-some p e)
get-folded n (place ∷ places) [] i p count e = absurd (omega arith)
get-folded n (place ∷ places) (facts ∷ table) zero p count e = ap (λ (q : Place). Some (folded_place n q facts)) (same_Some place p e)
get-folded n (place ∷ places) (facts ∷ table) (suc i) p count e = get-folded n places table i p (omega arith) e

pub got-folded : (n : ℕ) (places : List Place) (table : List Facts) (i : ℕ) (p' : Place) → slice_get (folded_places n places table) i ≡ Some p' →
    (p : Place) × (slice_get places i ≡ Some p) × (folded_place n p (slice_index_or table i Unreached) ≡ p')
unfolding folded_places
got-folded n [] table i p' e = absurd (none-some p' e)
got-folded n (place ∷ places) [] i p' e = absurd (none-some p' e)
got-folded n (place ∷ places) (facts ∷ table) zero p' e = (place, refl, same_Some (folded_place n place facts) p' e)
got-folded n (place ∷ places) (facts ∷ table) (suc i) p' e = got-folded n places table i p' e
