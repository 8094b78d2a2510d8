-- A code has one lowering.
use Rattle.std.proofs.Common.{◌≡◌, ℕ, suc, Bool, true, false, List, [], ◌∷◌, length, Some, refl, sym, ap, ap₂, ◌∙◌, arith}
use Rattle.std.specs.Prelude.{slice_get}
use Rattle.std.proofs.lemmas.Option.{same_Some}
use Rattle.cj_ir.specs.declared.language.Label.{Label}
use Rattle.cj_draft.specs.declared.code.Code.{Code}
use Rattle.cj_passes.specs.Lowering.{lowered, IsLowered}

-- every mark of the one is one of the other
abbrev Within : List Bool → List Bool → Type 0
Within xs ys = (k : ℕ) → slice_get xs k ≡ Some true → slice_get ys k ≡ Some true

marks_alike : (xs ys : List Bool) → length xs ≡ length ys → Within xs ys → Within ys xs → xs ≡ ys
marks_alike [] [] e h h' = refl
marks_alike [] (y ∷ ys) e h h' = absurd (omega arith)
marks_alike (x ∷ xs) [] e h h' = absurd (omega arith)
marks_alike (x ∷ xs) (y ∷ ys) e h h' =
    ap₂ (λ z zs. z ∷ zs) (one_alike x y (h 0) (h' 0)) (marks_alike xs ys (omega arith) (λ k. h (suc k)) (λ k. h' (suc k)))
  where
    one_alike : (x y : Bool) → (Some x ≡ Some true → Some y ≡ Some true) → (Some y ≡ Some true → Some x ≡ Some true) → x ≡ y
    one_alike true y a b = sym (same_Some y true (a refl))
    one_alike false true a b = same_Some false true (b refl)
    one_alike false false a b = refl

pub lowering_unique : (code one other : Code) → IsLowered code one → IsLowered code other → one ≡ other
lowering_unique code one other a b =
    let same = marks_alike a.kept b.kept (a.are_kept.count ∙ sym b.are_kept.count)
    (λ k e. let label : Label = record { 0 = k } in (b.are_kept.reached label).1 ((a.are_kept.reached label).0 e))
    (λ k e. let label : Label = record { 0 = k } in (a.are_kept.reached label).1 ((b.are_kept.reached label).0 e)) in
    a.same ∙ ap (lowered code) same ∙ sym b.same
