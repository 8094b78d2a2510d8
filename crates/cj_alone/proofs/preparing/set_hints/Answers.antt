use Rattle.std.proofs.Common.{refl, sym, [], append-nil}
use Rattle.cj_parts.proofs.Seats.{profile_same, profile_same_on}
use Rattle.cj_alone.proofs.Warming.{hints_more}
use Rattle.cj_alone.proofs.preparing.set_hints.Goals as goal

pub loop-setup-init : goal.loop-setup-init
loop-setup-init c = record { own = c.requires.own; same = profile_same _; part = ([], refl, sym (append-nil _)) }

pub loop-setup-preserved : goal.loop-setup-preserved
loop-setup-preserved c = record {
  own = c.set_hint.ensures.own;
  same = profile_same_on _ _ _ c.loop-setup.invariant.same c.set_hint.ensures.same;
  part = hints_more _ _ _ _ c.args.seat.now c.loop-setup.seat c.set_hint.new.seat c.loop-setup-test.true c.loop-setup.invariant.part c.set_hint.ensures.part;
}
