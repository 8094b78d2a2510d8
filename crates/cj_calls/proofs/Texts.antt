-- One more print, and one more report.
use Rattle.std.proofs.Common.{◌≡◌, ◌∙◌, sym, ap, refl, ℕ, ◌+◌, ◌<◌, ◌≤◌, ℤ, Bool, List, [], ◌∷◌, ◌++◌, length, drop, get_or, append_assoc, append-nil}
use Rattle.std.specs.Prelude.{codes}
use Rattle.std.proofs.lemmas.List.{drop_more}
use Rattle.std.proofs.Math.ListN.{drop_of_length-le}
use Rattle.std.specs.Fmt.{signed_decimal}
use Rattle.cj_ir.specs.declared.language.Program.{Program}
use Rattle.cj_calls.specs.declared.report.Report.{Report}
use Rattle.cj_calls.specs.Output.{prints_text, report_text, texts_from}

prints_text-cons : (v : ℤ) (vs : List ℤ) → prints_text (v ∷ vs) ≡ (signed_decimal v ++ codes "\n") ++ prints_text vs
unfolding prints_text
prints_text-cons v vs = refl

prints_text-nil : prints_text [] ≡ []
unfolding prints_text
prints_text-nil = refl

texts_from-cons : (p : Program) (stats : Bool) (k : ℕ) (r : Report) (rs : List Report) → texts_from p stats k (r ∷ rs) ≡ report_text p stats k r
    ++ texts_from p stats (k + 1) rs
unfolding texts_from
texts_from-cons p stats k r rs = refl

texts_from-nil : (p : Program) (stats : Bool) (k : ℕ) → texts_from p stats k [] ≡ []
unfolding texts_from
texts_from-nil p stats k = refl

-- a turn of the loop over the prints: what stands, and what is left
pub prints_turn : (before now all : List ℕ) (vs : List ℤ) (i : ℕ) (d : ℤ) → i < length vs → before ++ prints_text (drop i vs) ≡ all →
    now ≡ before ++ (signed_decimal (get_or vs i d) ++ codes "\n") → now ++ prints_text (drop (i + 1) vs) ≡ all
prints_turn before now all vs i d h left step =
    let v : ℤ = get_or vs i d in
    let next : drop i vs ≡ v ∷ drop (i + 1) vs = drop_more vs i d h in
    let text : prints_text (drop i vs) ≡ (signed_decimal v ++ codes "\n") ++ prints_text (drop (i + 1) vs) = ap prints_text next
    ∙ prints_text-cons v (drop (i + 1) vs) in
    ap (λ t. t ++ prints_text (drop (i + 1) vs)) step ∙ append_assoc before (signed_decimal v ++ codes "\n") (prints_text (drop (i + 1) vs))
    ∙ ap (λ t. before ++ t) (sym text) ∙ left

pub prints_end : (now all : List ℕ) (vs : List ℤ) (i : ℕ) → length vs ≤ i → now ++ prints_text (drop i vs) ≡ all → now ≡ all
prints_end now all vs i past left =
    let none : prints_text (drop i vs) ≡ [] = ap prints_text (drop_of_length-le vs past) ∙ prints_text-nil in
    sym (append-nil now) ∙ ap (λ t. now ++ t) (sym none) ∙ left

-- a turn of the loop over the reports
pub texts_turn : (p : Program) (stats : Bool) (before now all : List ℕ) (rs : List Report) (i : ℕ) (d : Report) → i < length rs →
    before ++ texts_from p stats (i + 1) (drop i rs) ≡ all → now ≡ before ++ report_text p stats (i + 1) (get_or rs i d) →
    now ++ texts_from p stats (i + 1 + 1) (drop (i + 1) rs) ≡ all
texts_turn p stats before now all rs i d h left step =
    let r : Report = get_or rs i d in
    let next : drop i rs ≡ r ∷ drop (i + 1) rs = drop_more rs i d h in
    let text : texts_from p stats (i + 1) (drop i rs) ≡ report_text p stats (i + 1) r
    ++ texts_from p stats (i + 1 + 1) (drop (i + 1) rs) = ap (texts_from p stats (i + 1)) next ∙ texts_from-cons p stats (i + 1) r (drop (i + 1) rs) in
    ap (λ t. t ++ texts_from p stats (i + 1 + 1) (drop (i + 1) rs)) step
    ∙ append_assoc before (report_text p stats (i + 1) r) (texts_from p stats (i + 1 + 1) (drop (i + 1) rs)) ∙ ap (λ t. before ++ t) (sym text) ∙ left

pub texts_end : (p : Program) (stats : Bool) (now all : List ℕ) (rs : List Report) (i : ℕ) → length rs ≤ i →
    now ++ texts_from p stats (i + 1) (drop i rs) ≡ all → now ≡ all
texts_end p stats now all rs i past left =
    let none : texts_from p stats (i + 1) (drop i rs) ≡ [] = ap (texts_from p stats (i + 1)) (drop_of_length-le rs past) ∙ texts_from-nil p stats (i + 1) in
    sym (append-nil now) ∙ ap (λ t. now ++ t) (sym none) ∙ left
