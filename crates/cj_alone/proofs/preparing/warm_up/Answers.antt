use Rattle.cj_alone.specs.declared.seats.Seats.{Seats}
use Rattle.cj_alone.proofs.Warming.{warming_none, warming_more, warming_done}
use Rattle.cj_alone.proofs.preparing.warm_up.Goals as goal

pub loop-setup-init : goal.loop-setup-init
loop-setup-init c = warming_none _ _ c.new-worker.ensures.ready c.new-warm.ensures

pub loop-setup-preserved : goal.loop-setup-preserved
loop-setup-preserved c =
    warming_more _ _ _ _ _ _ _ _ c.loop-setup-test.true c.loop-setup.invariant c.in_ok-warm_one.ensures.ready c.in_ok-warm_one.ensures.stays
    c.in_ok-warm_one.ensures.warms

pub returns-clause-warmed : goal.returns-clause-warmed
returns-clause-warmed c =
    let made = c.new-worker.ensures in
    let out = c.into_seats-code.ensures in
    let t : Seats = record { code = c.into_seats-code.result.0; profile = c.into_seats-code.result.1 } in
    warming_done _ c.args.setups.now c.loop-setup.setup-index c.loop-setup.warm c.new-worker.result c.loop-setup.worker c.args.seats t c.loop-setup-test.false
    made.tables.0 made.seats.0 made.seats.1 out.0 out.1 c.loop-setup.invariant
