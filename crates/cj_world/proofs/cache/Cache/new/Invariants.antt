use Rattle.std.proofs.Common.{◌≡◌, replicate}
use Rattle.cj_world.proofs.cache.Cache.new.Given as goal

abbrev pub invariant-loop : goal.invariant-loop
invariant-loop l = l.current ≡ replicate l.index 0
