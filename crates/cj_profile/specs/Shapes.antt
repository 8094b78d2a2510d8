-- How many parameters and labels a function has.
use Rattle.std.specs.Prelude.{length}
use Rattle.cj_ir.specs.declared.language.Function.{Function}
use Rattle.cj_profile.specs.declared.profile.Shape.{Shape}

abbrev pub shape_of : Function → Shape
shape_of f = record { params = f.params; labels = length f.code }
