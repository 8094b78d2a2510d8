-- Labels with the same number are the same.
use Rattle.std.proofs.Common.{◌≡◌, ◌≢◌, ◌⊎◌, ℕ, ap, inl, inr, ⊎_elim}
use Rattle.std.proofs.lemmas.Bool.{cases_eq}
use Rattle.cj_ir.specs.declared.language.Label.{Label}

pub same_label : (x y : Label) → x.0 ≡ y.0 → x ≡ y
same_label x y e = ap label e
  where
    label : ℕ → Label
    label n = record { 0 = n }

pub label_cases : (x y : Label) → (x ≡ y) ⊎ (x ≢ y)
label_cases x y = ⊎_elim (λ e. inl (same_label x y e)) (λ ne. inr (λ e. ne (ap (λ (z : Label). z.0) e))) (cases_eq x.0 y.0)
