use Rattle.std.proofs.Common.{◌∙◌, sym}
use Rattle.cj_bench.proofs.States.{after_none, no_functions, one_function, draws_more}
use Rattle.cj_bench.proofs.functions.drawn_functions.Goals as goal

pub loop-index-init : goal.loop-index-init
loop-index-init c =
    (c.new-functions.ensures ∙ sym (no_functions c.args.draws.now.state), sym (after_none c.args.draws.now.state))

pub loop-index-preserved : goal.loop-index-preserved
loop-index-preserved c = (
  one_function c.loop-index.index c.args.draws.now.state c.loop-index.draws.state c.loop-index.functions c.push_function.new.functions c.loop-index.invariant.0
      c.loop-index.invariant.1 c.in_ok-push_function.ensures.more,
  draws_more 4 c.loop-index.index c.args.draws.now.state c.loop-index.draws.state c.push_function.new.draws.state c.loop-index.invariant.1
      c.in_ok-push_function.ensures.next,
)
