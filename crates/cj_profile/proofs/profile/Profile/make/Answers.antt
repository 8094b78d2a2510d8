use Rattle.std.proofs.Common.{◌∙◌, List, map, ap, sym, subst}
use Rattle.cj_ir.specs.declared.language.Function.{Function}
use Rattle.cj_ir.specs.declared.language.Program.{Program}
use Rattle.cj_profile.specs.Limits.{IsLimited}
use Rattle.cj_profile.specs.Shapes.{shape_of}
use Rattle.cj_profile.proofs.Limiting.{limited}
use Rattle.cj_profile.proofs.profile.Profile.make.Goals as goal

pub invariant_of-profile-clause-limited : goal.invariant_of-profile-clause-limited
invariant_of-profile-clause-limited c =
    subst IsLimited (sym c.in_ok-table.ensures.5) (limited c.args.checked.now c.program.ensures.well_formed)

pub invariant_of-profile-clause-shaped : goal.invariant_of-profile-clause-shaped
invariant_of-profile-clause-shaped c =
    c.in_ok-shapes.ensures
    ∙ (ap (λ (fs : List Function). map shape_of fs) c.items-functions.ensures
    ∙ ap (λ (p : Program). map shape_of p.functions) (c.program.ensures.same ∙ sym c.in_ok-table.ensures.5))
