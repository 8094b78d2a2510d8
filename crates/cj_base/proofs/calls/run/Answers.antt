use Rattle.std.proofs.Common.{◌≡◌, ◌+◌, ◌<◌, arith}
use Rattle.cj_base.specs.declared.machine.End.TheVariants.{TurnLimit}
use Rattle.cj_base.specs.Machine.{config_of}
use Rattle.cj_base.specs.Run.{begun}
use Rattle.cj_base.proofs.RunLemmas.{run_starts, run_goes_on, ended_outcome, limit_outcome, whole_of}
use Rattle.cj_base.proofs.calls.run.Goals as goal

pub loop-turn-init : goal.loop-turn-init
loop-turn-init c = (
  c.in_ok-config.ensures.fits,
  run_starts c.args.checked.now (begun c.args.call.now) c.new-printed.result
      (config_of c.in_ok-config.config) c.new-printed.ensures c.in_ok-config.ensures.start,
)

pub loop-turn-preserved : goal.loop-turn-preserved
loop-turn-preserved c =
    let before = c.loop-turn in
    let after = c.turn.new in
    let made = rw c.in_default.is at c.in_ok-end.ensures.made in (
      c.turn.ensures.fits,
      run_goes_on c.args.checked.now (begun c.args.call.now) before.turn (config_of before.config)
          (config_of after.self) before.printed after.printed before.invariant.1 made,
    )

pub returns-in-Ended-clause-outcome : goal.returns-in-Ended-clause-outcome
unfolding begun
returns-in-Ended-clause-outcome c =
    let before = c.loop-turn in
    let after = c.turn.new in
    let made = rw c.in-Ended.is at c.in_ok-end.ensures.made in
    let free = rw c.in-Ended.is at c.in_ok-end.ensures.no_limit in
    let turns : c.from.result + 1 ≡ before.turn + 1 = omega arith in
    let within : before.turn < c.args.call.now.limit = omega arith in
    ended_outcome c.args.checked.now (begun c.args.call.now) before.turn (c.from.result + 1) (config_of before.config)
    (config_of after.self) before.printed after.printed c.in-Ended.end before.invariant.1 made free turns within

pub returns-in-Ended-clause-whole : goal.returns-in-Ended-clause-whole
returns-in-Ended-clause-whole c =
    whole_of c.args.checked.now (begun c.args.call.now) (record { printed = c.turn.new.printed; end = c.in-Ended.end; turns = c.from.result + 1 })
    (returns-in-Ended-clause-outcome c)

pub returns-clause-outcome : goal.returns-clause-outcome
unfolding begun
returns-clause-outcome c =
    let last = c.loop-turn in
    let limit : c.from-2.result ≡ c.args.call.now.limit = omega arith in
    let turns : last.turn ≡ c.from-2.result = omega arith in
    limit_outcome c.args.checked.now (begun c.args.call.now) last.printed c.from-2.result (config_of last.config) (rw turns at last.invariant.1) limit

pub returns-clause-whole : goal.returns-clause-whole
returns-clause-whole c =
    whole_of c.args.checked.now (begun c.args.call.now) (record { printed = c.loop-turn.printed; end = TurnLimit; turns = c.from-2.result })
    (returns-clause-outcome c)
