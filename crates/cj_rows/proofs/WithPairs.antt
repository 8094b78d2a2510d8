-- What is in pairs with one more, which are made in one way.
use Rattle.std.proofs.Common.{◌≡◌, ◌⊎◌, List, [], ◌∷◌, sym, ◌∙◌, subst, inl, inr, ⊎_elim}
use Rattle.std.specs.Prelude.{Contains}
use Rattle.std.proofs.lemmas.List.Elements.{Contains-append_left, Contains-push_cases, Contains-push}
use Rattle.cj_draft.specs.declared.code.Back.{Back}
use Rattle.cj_rows.specs.Pairs.{AreWith}

pub with_old : (backs : List Back) (pair : Back) (all : List Back) → AreWith backs pair all → (q : Back) → Contains backs q → Contains all q
with_old backs pair all w q c = ⊎_elim
    (λ has. subst (λ qs. Contains qs q) (sym has.1) c)
    (λ has. subst (λ qs. Contains qs q) (sym has.1) (Contains-append_left backs (pair ∷ []) q c)) w

pub with_new : (backs : List Back) (pair : Back) (all : List Back) → AreWith backs pair all → Contains all pair
with_new backs pair all w = ⊎_elim
    (λ has. subst (λ qs. Contains qs pair) (sym has.1) has.0)
    (λ has. subst (λ qs. Contains qs pair) (sym has.1) (Contains-push backs pair)) w

pub with_only : (backs : List Back) (pair : Back) (all : List Back) → AreWith backs pair all → (q : Back) → Contains all q → Contains backs q ⊎ (q ≡ pair)
with_only backs pair all w q c = ⊎_elim
    (λ has. inl (subst (λ qs. Contains qs q) has.1 c))
    (λ has. ⊎_elim (λ old. inl old) (λ new. inr (sym new)) (Contains-push_cases backs pair q (subst (λ qs. Contains qs q) has.1 c))) w

pub with_alike : (backs : List Back) (pair : Back) (one other : List Back) → AreWith backs pair one → AreWith backs pair other → one ≡ other
with_alike backs pair one other a b = ⊎_elim
    (λ x. ⊎_elim (λ y. x.1 ∙ sym y.1) (λ y. absurd (y.0 x.0)) b)
    (λ x. ⊎_elim (λ y. absurd (x.0 y.0)) (λ y. x.1 ∙ sym y.1) b) a
