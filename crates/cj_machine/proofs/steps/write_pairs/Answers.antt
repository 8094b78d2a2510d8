use Rattle.std.proofs.Common.{◌≡◌, ◌∙◌, refl, ap, arith, length}
use Rattle.cj_activations.specs.Activations.{Stacked}
use Rattle.cj_machine.proofs.Assigning.{written_none, written_more, written_all, stacked_is}
use Rattle.cj_machine.proofs.steps.write_pairs.Goals as goal

pub loop-place-init : goal.loop-place-init
loop-place-init c = record { written = written_none _ _ _; waiting = refl }

pub loop-place-preserved : goal.loop-place-preserved
loop-place-preserved c = record {
  written = written_more _ _ _ _ _ _ _ _ c.loop-place-test.true c.requires.count (ap (λ (s : Stacked). s.top) c.write_pair.ensures)
      c.loop-place.invariant.written;
  waiting = ap (λ (s : Stacked). s.waiting) c.write_pair.ensures ∙ c.loop-place.invariant.waiting;
}

pub returns : goal.returns
returns c = λ regs all.
    let end : length c.args.pairs.now ≡ c.loop-place.place = omega arith in
    stacked_is _ _ _ (written_all _ _ _ _ _ end c.loop-place.invariant.written regs all) c.loop-place.invariant.waiting
