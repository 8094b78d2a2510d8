-- Tables of labels, as they are filled and read.
use Rattle.std.proofs.Common.{◌≡◌, ℕ, ◌+◌, ◌<◌, List, [], ◌∷◌, ◌++◌, Some, refl, sym, ap, ◌∙◌, subst, ⊎_elim, arith, length-append}
use Rattle.std.specs.Prelude.{slice_get}
use Rattle.std.proofs.lemmas.Option.{get_or_from_slice_get}
use Rattle.std.proofs.lemmas.Bool.{cases_eq}
use Rattle.cj_ir.specs.declared.language.Label.{Label}
use Rattle.cj_ir.proofs.Labels.{same_label}
use Rattle.cj_rows.specs.Tables.{IsTable, given}
use Rattle.cj_rows.proofs.ListReads.{get-append_left, get-append_end}

unfoldable pub numbered : ℕ → Label
numbered n = record { 0 = n }

pub table_none : (f : Label → Label) → IsTable f 0 []
table_none f = record { count = refl; at = λ x h. absurd (omega arith) }

pub table_more : (f : Label → Label) (n : ℕ) (table : List Label) (x y : Label) → IsTable f n table → x.0 ≡ n → y ≡ f x → IsTable f (n + 1) (table ++ y ∷ [])
table_more f n table x y t e is = record {
  count = length-append table (y ∷ []) ∙ ap (λ k. k + 1) t.count;
  at = λ z h. ⊎_elim
      (λ same.
      let here : slice_get (table ++ y ∷ []) z.0 ≡ Some y = subst (λ k. slice_get (table ++ y ∷ []) k ≡ Some y) (t.count ∙ sym same) (get-append_end table y) in
      here ∙ ap Some (is ∙ ap f (same_label x z (e ∙ sym same))))
      (λ other. let less : z.0 < n = omega arith in get-append_left table (y ∷ []) z.0 (f z) (t.at z less))
      (cases_eq z.0 n);
}

pub given_in : (f : Label → Label) (n : ℕ) (table : List Label) (x : Label) → IsTable f n table → x.0 < n → given table x ≡ f x
unfolding given
given_in f n table x t h = get_or_from_slice_get table x.0 (f x) x (t.at x h)
