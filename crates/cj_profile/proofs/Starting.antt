-- One more step of the only seat.
use Rattle.std.proofs.Common.{◌≡◌, ℕ, List, [], ◌∷◌, ◌++◌, refl, sym, ap, ◌∙◌, subst, append_assoc, append-nil, Option, Some, None, if◌then◌else◌}
use Rattle.std.specs.Prelude.{◌==◌}
use Rattle.cj_profile.specs.declared.view.Read.{Read}
use Rattle.cj_profile.specs.Starts.{left_in, Finds, FindLeft, FromZeros}

pub left_more : (word n : ℕ) (rs : List Read) (r : Read) → left_in word n (rs ++ r ∷ []) ≡ (if r.word == word then r.left else left_in word n rs)
left_more word n [] r = refl
left_more word n (x ∷ rs) r = left_more word (if x.word == word then x.left else n) rs r

finds_more : (before rs : List Read) (r : Read) → FindLeft before rs → Finds (before ++ rs) r.word r.found → FindLeft before (rs ++ r ∷ [])
finds_more before [] r all one = (subst (λ (xs : List Read). Finds xs r.word r.found) (append-nil before) one, tt)
finds_more before (x ∷ rs) r all one =
    (all.0, finds_more (before ++ x ∷ []) rs r all.1 (subst (λ (xs : List Read). Finds xs r.word r.found) (sym (append_assoc before (x ∷ []) rs)) one))

pub starts_more : (rs : List Read) (r : Read) → FromZeros rs → Finds rs r.word r.found → FromZeros (rs ++ r ∷ [])
starts_more rs r all one = finds_more [] rs r all one
