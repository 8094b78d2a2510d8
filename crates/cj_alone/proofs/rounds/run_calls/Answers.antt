use Rattle.cj_alone.proofs.Keeping.{seats_same, seats_same_on}
use Rattle.cj_alone.proofs.Calling.{rounds_none, rounds_more}
use Rattle.cj_alone.proofs.rounds.run_calls.Goals as goal

pub loop-call-init : goal.loop-call-init
loop-call-init c = record {
  free = c.requires.free;
  known = c.new.ensures.known _ _;
  same = seats_same _;
  rounds = rounds_none _ _ c.requires.none c.requires.free.code.reliable;
}

pub loop-call-preserved : goal.loop-call-preserved
loop-call-preserved c =
    let e = c.in_ok-so_far.ensures in
    record {
      free = e.free;
      known = e.known;
      same = seats_same_on _ _ _ c.loop-call.invariant.same e.same;
      rounds = rounds_more _ _ _ _ _ _ _ c.loop-call-test.true c.call-item.is c.loop-call.invariant.rounds e.round e.free.code.reliable;
    }
