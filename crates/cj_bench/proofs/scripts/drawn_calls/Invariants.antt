use Rattle.std.proofs.Common.{◌≡◌, ◌*◌}
use Rattle.cj_bench.specs.Generated.{after, calls_drawn}
use Rattle.cj_bench.proofs.scripts.drawn_calls.Given as goal

abbrev pub invariant-loop-place : goal.invariant-loop-place
invariant-loop-place l =
    (l.calls ≡ calls_drawn l._place l.fn.draws.state) × (l.draws.state ≡ after (2 * l._place) l.fn.draws.state)
