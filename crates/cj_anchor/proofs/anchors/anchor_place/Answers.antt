use Rattle.std.proofs.Common.{List, ap, ◌∙◌}
use Rattle.cj_ir.specs.declared.language.Label.{Label}
use Rattle.cj_draft.specs.declared.code.Back.{Back}
use Rattle.cj_draft.specs.declared.points.Point.{Point}
use Rattle.cj_draft.specs.declared.facts.Facts.{Facts}
use Rattle.cj_draft.specs.declared.instructions.VInstr.TheVariants.{Anchor}
use Rattle.cj_draft.specs.declared.code.Place.{Place}
use Rattle.cj_anchor.specs.AnchorInsertion.{anchor_place}
use Rattle.cj_anchor.proofs.anchors.anchor_place.Goals as goal

pub returns : goal.returns
unfolding anchor_place
returns c =
    let backs = c.in_ok-backs.backs in
    let fresh = λ (target point : Point) (facts : Facts). made target point facts c.args.label backs in
    record {
      backs = backs;
      with_own = c.in_ok-backs.ensures;
      same = ap (λ (t : Point). fresh t c.in_ok-point.point c.in_ok-facts.facts) c.in_ok-target.ensures
          ∙ ap (λ (p : Point). fresh c.args.place.now.point p c.in_ok-facts.facts) c.in_ok-point.ensures
          ∙ ap (λ (fs : Facts). fresh c.args.place.now.point c.args.place.now.point fs) c.in_ok-facts.ensures;
    }
  where
    made : Point → Point → Facts → Label → List Back → Place
    made target point facts label backs = record { instr = Anchor 0 target label; point = point; facts = facts; backs = backs }
