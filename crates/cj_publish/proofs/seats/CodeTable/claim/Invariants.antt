use Rattle.std.proofs.Common.{◌≡◌, ◌-◌, ◌≤◌}
use Rattle.cj_publish.specs.Views.{with_next}
use Rattle.cj_publish.specs.Reliable.{IsReliable}
use Rattle.cj_publish.proofs.seats.CodeTable.claim.Given as goal

abbrev pub invariant-loop-next : goal.invariant-loop-next
invariant-loop-next l = record {
  table : l.seat.seat.table_id ≡ l.fn.seat.seat.table_id;
  first : l.seat.first ≡ l.fn.seat.first;
  splits : l.seat.splits ≡ l.fn.seat.splits;
  view : l.seat.seat.me.0 ≡ with_next l.fn.seat.seat.me.0 l.next;
  later : l.fn.seat.seat.me.0.next ≤ l.next;
  below : l.next ≤ l.self.size;
  reliable : IsReliable l.seat.seat.me.0;
}

abbrev pub decreases-loop-next : goal.decreases-loop-next
decreases-loop-next l = l.self.size - l.next
