use Rattle.std.proofs.Common.{◌≡◌, ◌+◌, ◌≤◌}
use Rattle.cj_publish.specs.Reliable.{IsReliable}
use Rattle.cj_publish.specs.Calls.{Grows}
use Rattle.cj_publish.proofs.Several.{HasRead}
use Rattle.cj_publish.proofs.seats.CodeTable.fetch_words.Given as goal

abbrev pub invariant-loop-i : goal.invariant-loop-i
invariant-loop-i l = record {
  table : l.seat.seat.table_id ≡ l.fn.seat.seat.table_id;
  first : l.seat.first ≡ l.fn.seat.first;
  splits : l.seat.splits ≡ l.fn.seat.splits;
  grows : Grows l.fn.seat.seat.me.0 l.seat.seat.me.0;
  read : HasRead l.seat.seat.me.0 l.fn.cell l.offset l.len l.i l.words.items;
  inside : l.offset + l.len ≤ l.self.size;
  some : 2 ≤ l.len;
  reliable : IsReliable l.seat.seat.me.0;
}
