-- The counts that a profile keeps are those of its program.
use Rattle.std.proofs.Common.{◌≡◌, ℕ, zero, suc, ◌<◌, List, [], ◌∷◌, length, map, get_or, slice_get, refl, arith}
use Rattle.cj_ir.specs.Program.{params_of, labels_of}
use Rattle.cj_ir.specs.declared.language.Function.{Function}
use Rattle.cj_profile.specs.declared.profile.Shape.{Shape}
use Rattle.cj_profile.specs.Shapes.{shape_of}

pub shape_at : (fs : List Function) (n : ℕ) (d : Shape) → n < length fs → ((get_or (map shape_of fs) n d).params ≡ params_of (slice_get fs n))
    × ((get_or (map shape_of fs) n d).labels ≡ labels_of (slice_get fs n))
shape_at [] n d h = absurd (omega arith)
shape_at (f ∷ fs) zero d h = (refl, refl)
shape_at (f ∷ fs) (suc n) d h = shape_at fs n d (omega arith)
