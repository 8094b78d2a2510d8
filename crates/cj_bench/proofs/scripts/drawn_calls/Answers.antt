use Rattle.std.proofs.Common.{◌∙◌, sym}
use Rattle.cj_bench.proofs.States.{after_none, no_calls, one_call, draws_more}
use Rattle.cj_bench.proofs.scripts.drawn_calls.Goals as goal

pub loop-place-init : goal.loop-place-init
loop-place-init c =
    (c.new-calls.ensures ∙ sym (no_calls c.args.draws.now.state), sym (after_none c.args.draws.now.state))

pub loop-place-preserved : goal.loop-place-preserved
loop-place-preserved c = (
  one_call c.loop-place._place c.args.draws.now.state c.loop-place.draws.state c.loop-place.calls c.push_call.new.calls c.loop-place.invariant.0
      c.loop-place.invariant.1 c.in_ok-push_call.ensures.more,
  draws_more 2 c.loop-place._place c.args.draws.now.state c.loop-place.draws.state c.push_call.new.draws.state c.loop-place.invariant.1
      c.in_ok-push_call.ensures.next,
)
