use Rattle.std.proofs.Common.{sym, subst}
use Rattle.cj_draft.specs.Bodies.{IsSoundBody}
use Rattle.cj_draft.proofs.Adopted.{sound_alone}
use Rattle.cj_draft.proofs.versions.Version.adopt.Goals as goal

pub invariant_of-result : goal.invariant_of-result
invariant_of-result c = (
  subst (λ context. IsSoundBody c.args.checked.now context c.args.code) (sym c.new-context.ensures)
      (sound_alone c.args.checked.now c.args.code c.requires.sound),
  c.requires.no_anchors,
)
