use Rattle.std.proofs.Common.{map, length}
use Rattle.cj_roles.proofs.Piles.{Gathering}
use Rattle.cj_roles.proofs.gathering.gather.Given as goal

abbrev pub invariant-loop : goal.invariant-loop
invariant-loop l = Gathering l.count l.counter l.reports (map (λ pile. pile.items) l.fn.piles.items) (map (λ pile. pile.items) l.piles.items)
