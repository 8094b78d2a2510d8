use Rattle.std.proofs.Common.{List, ap, ◌∙◌}
use Rattle.cj_draft.specs.declared.points.Point.{Point}
use Rattle.cj_draft.specs.declared.facts.Facts.{Facts}
use Rattle.cj_draft.specs.declared.instructions.VInstr.{VInstr}
use Rattle.cj_draft.specs.declared.code.Back.{Back}
use Rattle.cj_draft.specs.declared.code.Place.{Place}
use Rattle.cj_delay.specs.DelayedAssume.{fresh_place}
use Rattle.cj_delay.proofs.delays.fresh_place.Goals as goal

made : Point → Facts → VInstr → List Back → Place
made point facts instr backs = record { instr = instr; point = point; facts = facts; backs = backs }

pub returns : goal.returns
unfolding fresh_place made
returns c =
    let backs = c.in_ok-backs.backs in
    let last = c.args.last.now in
    record {
      backs = backs;
      with_pair = c.in_ok-backs.ensures;
      same = ap (λ (p : Point). made p c.in_ok-facts.facts c.args.instr backs) c.in_ok-point.ensures
          ∙ ap (λ (fs : Facts). made last.point fs c.args.instr backs) c.in_ok-facts.ensures;
    }
