use Rattle.std.proofs.Common.{Bool, [], ◌∷◌, if◌then◌else◌, ap, ◌∙◌, sym}
use Rattle.cj_plan.specs.declared.colds.Cold.{Cold}
use Rattle.cj_plan.specs.Plan.{cold_edge, label}
use Rattle.cj_plan.proofs.Each.{room_none}
use Rattle.cj_plan.proofs.colds.add_edge.Goals as goal

pub returns-else-is_cold-clause-edge : goal.returns-else-is_cold-clause-edge
returns-else-is_cold-clause-edge c =
    let cold : Cold = record { label = label c.args.label.0; target = c.args.target } in
    room_none 64 c.args.colds.now (cold_edge c.args.label.0 c.args.target c.args.count c.args.other)
    (ap (λ (b : Bool). if b then cold ∷ [] else []) (sym c.is_cold.ensures ∙ c.if-is_cold.false)) c.requires
