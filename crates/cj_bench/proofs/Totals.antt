-- One more report in the counts and the sum of a summary.
use Rattle.std.proofs.Common.{◌≡◌, ◌∙◌, sym, ap, refl, ℕ, ◌+◌, ◌<◌, ◌≤◌, ℤ, pos, ◌+ℤ◌, Bool, true, false, List, [], ◌∷◌, length, drop, get_or, Option, Some}
use Rattle.std.proofs.Common.{None, arith, FitsSigned, w64, if◌then◌else◌}
use Rattle.std.specs.Prelude.{MatchOption, is_some}
use mir.Val.{bool_byte}
use Rattle.std.specs.List.{cons_option}
use Rattle.std.proofs.Math.ListN.{drop_of_length-le}
use Rattle.std.proofs.Math.IntN.{+ℤ_idl, +ℤ_idr, +ℤ_assoc}
use Rattle.std.proofs.lemmas.List.{at_drop_more}
use Rattle.std.proofs.lemmas.List.Sums.{sum_by-drop_more}
use Rattle.std.proofs.lemmas.Int.{int_wrap-add_left, int_wrap_fits}
use Rattle.cj_ir.specs.Values.{wrap}
use Rattle.cj_calls.specs.declared.report.Report.{Report}
use Rattle.cj_bench.specs.Summary.{value_of_end, returned, print_count, total}

returned_more : (rs : List Report) (i : ℕ) (r : Report) → i < length rs →
    returned (drop i rs) ≡ cons_option (value_of_end (get_or rs i r).end) (returned (drop (i + 1) rs))
unfolding returned
returned_more rs i r h = at_drop_more returned rs i r h

none_returned : (rs : List Report) (i : ℕ) → length rs ≤ i → returned (drop i rs) ≡ []
unfolding returned
none_returned rs i past = ap returned (drop_of_length-le rs past)

-- ---- the number of returns

one_of : (o : Option ℤ) (vs : List ℤ) → length (cons_option o vs) ≡ (if is_some o then 1 else 0) + length vs
one_of None vs = omega arith
one_of (Some v) vs = omega arith

pub as_one : (found test : Bool) → found ≡ test → bool_byte found ≡ (if test then 1 else 0)
as_one true true e = refl
as_one true false e = cc
as_one false true e = cc
as_one false false e = refl

pub at_most_one : (n : ℕ) (test : Bool) → n ≡ (if test then 1 else 0) → n ≤ 1
at_most_one n true e = omega (arith, e)
at_most_one n false e = omega (arith, e)

pub returns_turn : (rs : List Report) (i : ℕ) (r : Report) (before now all : ℕ) → i < length rs → before + length (returned (drop i rs)) ≡ all →
    now ≡ before + (if is_some (value_of_end (get_or rs i r).end) then 1 else 0) → now + length (returned (drop (i + 1) rs)) ≡ all
returns_turn rs i r before now all h left step =
    let more : length (returned (drop i rs)) ≡ (if is_some (value_of_end (get_or rs i r).end) then 1 else 0) + length (returned (drop (i + 1) rs)) =
    ap length (returned_more rs i r h) ∙ one_of (value_of_end (get_or rs i r).end) (returned (drop (i + 1) rs))
    in
    omega (arith, left, step, more)

pub returns_end : (rs : List Report) (i now all : ℕ) → length rs ≤ i → now + length (returned (drop i rs)) ≡ all → now ≡ all
returns_end rs i now all past left =
    let none : length (returned (drop i rs)) ≡ 0 = ap length (none_returned rs i past) in
    omega (arith, left, none)

-- ---- the number of prints

pub prints_turn : (rs : List Report) (i : ℕ) (r : Report) (before now all : ℕ) → i < length rs → before + print_count (drop i rs) ≡ all →
    now ≡ before + length (get_or rs i r).printed → now + print_count (drop (i + 1) rs) ≡ all
unfolding print_count
prints_turn rs i r before now all h left step =
    let more : print_count (drop i rs) ≡ length (get_or rs i r).printed + print_count (drop (i + 1) rs) =
    sum_by-drop_more (λ (report : Report). length report.printed) rs i r h
    in
    omega (arith, left, step, more)

pub prints_end : (rs : List Report) (i now all : ℕ) → length rs ≤ i → now + print_count (drop i rs) ≡ all → now ≡ all
unfolding print_count
prints_end rs i now all past left =
    let none : print_count (drop i rs) ≡ 0 = ap print_count (drop_of_length-le rs past) in
    omega (arith, left, none)

-- ---- the sum

total-cons : (v : ℤ) (vs : List ℤ) → total (v ∷ vs) ≡ v +ℤ total vs
unfolding total
total-cons v vs = refl

total-nil : total [] ≡ pos 0
unfolding total
total-nil = refl

sum_behind : (o : Option ℤ) (vs : List ℤ) (before now : ℤ) → MatchOption o (now ≡ before) (λ v. now ≡ wrap (before +ℤ v)) →
    wrap (now +ℤ total vs) ≡ wrap (before +ℤ total (cons_option o vs))
sum_behind None vs before now step = ap (λ s. wrap (s +ℤ total vs)) step
sum_behind (Some v) vs before now step =
    ap (λ s. wrap (s +ℤ total vs)) step
    ∙ int_wrap-add_left w64 (before +ℤ v) (total vs)
    ∙ ap wrap (+ℤ_assoc before v (total vs))
    ∙ ap (λ s. wrap (before +ℤ s)) (sym (total-cons v vs))

pub sum_turn : (rs : List Report) (i : ℕ) (r : Report) (before now all : ℤ) → i < length rs → wrap (before +ℤ total (returned (drop i rs))) ≡ all →
    MatchOption (value_of_end (get_or rs i r).end) (now ≡ before) (λ v. now ≡ wrap (before +ℤ v)) → wrap (now +ℤ total (returned (drop (i + 1) rs))) ≡ all
sum_turn rs i r before now all h left step =
    sum_behind (value_of_end (get_or rs i r).end) (returned (drop (i + 1) rs)) before now step
    ∙ ap (λ vs. wrap (before +ℤ total vs)) (sym (returned_more rs i r h))
    ∙ left

pub sum_start : (vs : List ℤ) → wrap (pos 0 +ℤ total vs) ≡ wrap (total vs)
sum_start vs = ap wrap (+ℤ_idl (total vs))

pub sum_end : (rs : List Report) (i : ℕ) (now all : ℤ) → FitsSigned w64 now → length rs ≤ i → wrap (now +ℤ total (returned (drop i rs))) ≡ all → now ≡ all
sum_end rs i now all fits past left =
    let none : total (returned (drop i rs)) ≡ pos 0 = ap total (none_returned rs i past) ∙ total-nil in
    sym (int_wrap_fits w64 now fits) ∙ ap wrap (sym (+ℤ_idr now)) ∙ ap (λ s. wrap (now +ℤ s)) (sym none) ∙ left
