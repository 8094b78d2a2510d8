use Rattle.std.proofs.Common.{◌<◌, ◌∙◌, sym, subst, length}
use Rattle.cj_ir.specs.declared.language.Label.{Label}
use Rattle.cj_delay.proofs.PathSteps.{edge_within}
use Rattle.cj_delay.proofs.paths.step_offence.Goals as goal

pub edges_into-count-requires-clause-within : goal.edges_into-count-requires-clause-within
edges_into-count-requires-clause-within c =
    subst (λ (l : Label). l.0 < length c.args.code.now.places) (sym c.on_path-label.ensures)
    (edge_within c.args.code.now c.args.path.now c.args.at c.requires.closed (sym c.is_edge.ensures ∙ c.if-not-is_edge.false))
