use Rattle.std.proofs.Common.{◌≡◌, ◌-◌, Some}
use Rattle.cj_publish.specs.declared.view.Claim.{Claim}
use Rattle.cj_publish.specs.Plays.{IsAt}
use Rattle.cj_publish.specs.Reliable.{IsReliable}
use Rattle.cj_publish.specs.Seats.{key_of}
use Rattle.cj_publish.proofs.Several.{Searching}
use Rattle.cj_publish.proofs.seats.CodeTable.replace.Given as goal

abbrev pub invariant-loop-seen : goal.invariant-loop-seen
invariant-loop-seen l = record {
  table : l.seat.table_id ≡ l.fn.seat.table_id;
  at_cell : IsAt (key_of l.self) l.at l.fn.cell;
  reliable : IsReliable l.seat.me.0;
  slots : l.seat.me.1 ≡ l.fn.seat.me.1;
  searching : (c : Claim) → l.fn.seat.me.0.claim ≡ Some c → Searching l.fn.seat.me.0 c l.fn.cell l.seen l.seat.me.0;
}

abbrev pub decreases-loop-seen : goal.decreases-loop-seen
decreases-loop-seen l = l.mine - l.seen
