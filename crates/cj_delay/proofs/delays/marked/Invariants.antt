use Rattle.std.proofs.Common.{◌≡◌, ◌+◌}
use Rattle.cj_rows.specs.Places.{with_places}
use Rattle.cj_delay.specs.DelayedAssume.{turns_before, AreMarked}
use Rattle.cj_delay.proofs.delays.marked.Given as goal

abbrev pub invariant-loop-at : goal.invariant-loop-at
invariant-loop-at l = record {
  same : l.code ≡ with_places l.fn.code l.code.places;
  marked : AreMarked l.fn.code l.path l.target l.number l.at l.code.places;
  turns : l.turns ≡ l.number + turns_before l.fn.code l.path l.at;
}
