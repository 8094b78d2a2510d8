use Rattle.std.proofs.Common.{◌∙◌, sym}
use Rattle.cj_anchor.proofs.AnchorSteps.{no_offence_within}
use Rattle.cj_anchor.proofs.anchors.insert_anchor.Goals as goal

pub anchored-requires-clause-within : goal.anchored-requires-clause-within
anchored-requires-clause-within c = no_offence_within c.args.code c.args.label (sym c.anchor_offence.ensures ∙ c.in_default.is)
