use Rattle.std.proofs.Common.{◌≡◌, ◌*◌}
use Rattle.cj_bench.specs.Generated.{after, functions_drawn}
use Rattle.cj_bench.proofs.functions.drawn_functions.Given as goal

abbrev pub invariant-loop-index : goal.invariant-loop-index
invariant-loop-index l =
    (l.functions ≡ functions_drawn l.index l.fn.draws.state) × (l.draws.state ≡ after (4 * l.index) l.fn.draws.state)
