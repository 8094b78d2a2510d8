use Rattle.std.proofs.Common.{take}
use Rattle.cj_publish.specs.Seats.{view_of, Belongs, IsSame}
use Rattle.cj_publish.specs.Calls.{Fills}
use Rattle.cj_publish.proofs.seats.CodeTable.write_all.Given as goal

abbrev pub invariant-loop-i : goal.invariant-loop-i
invariant-loop-i l = record {
  own : Belongs l.self l.seat;
  same : IsSame l.fn.seat l.seat;
  fills : Fills (view_of l.fn.seat) (take l.i l.fn.words) (view_of l.seat);
}
