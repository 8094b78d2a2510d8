-- A well-formed program is within the limits.
use Rattle.std.proofs.Common.{◌≡◌, ◌≤◌, List, Option, Some, None, slice_get, refl, subst, arith}
use Rattle.std.proofs.lemmas.Option.{slice_get_within, get_or_from_slice_get}
use Rattle.cj_ir.specs.Program.{params_of, labels_of}
use Rattle.cj_ir.specs.WellFormed.{IsFunctionFine, IsWellFormed}
use Rattle.cj_ir.specs.declared.language.Function.{Function}
use Rattle.cj_ir.specs.declared.language.Program.{Program}
use Rattle.cj_profile.specs.Limits.{IsLimited}

limited_by : (fs : List Function) (g : Option Function) → ((x : Function) → g ≡ Some x → IsFunctionFine fs x) → (params_of g ≤ 8) × (labels_of g ≤ 256)
limited_by fs None fine = (omega arith, omega arith)
limited_by fs (Some x) fine = let g = fine x refl in (g.few_params, g.few_labels)

pub limited : (p : Program) → IsWellFormed p → IsLimited p
limited p fine f = limited_by p.functions (slice_get p.functions f.0)
    (λ x e. subst (IsFunctionFine p.functions) (get_or_from_slice_get p.functions f.0 x x e) (fine.functions f.0 x (slice_get_within p.functions f.0 x e)))
