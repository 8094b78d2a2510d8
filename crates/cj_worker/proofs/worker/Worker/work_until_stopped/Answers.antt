use Rattle.std.proofs.Common.{Bool, subst}
use Rattle.cj_worker.specs.Workers.{TurnMade}
use Rattle.cj_worker.proofs.Turning.{stays_same, stays_on, no_turn, one_turn, lost_turn, where_lost}
use Rattle.cj_worker.proofs.worker.Worker.work_until_stopped.Goals as goal

pub loop-init : goal.loop-init
loop-init g c = record {
  ready = c.requires.ready;
  stays = stays_same c.args.self.now;
  turns = no_turn c.args.callers c.new-work.result c.args.self.now c.new-work.ensures;
}

pub loop-preserved : goal.loop-preserved
loop-preserved g c =
    let i = c.loop.invariant in
    let h = c.in_ok-turn.ensures in
    let made = subst (λ (b : Bool). TurnMade c.args.callers b c.loop.work c.turn.new.work c.loop.self c.turn.new.self) c.if-branch.false h.made in
    record {
      ready = h.ready;
      stays = stays_on c.args.self.now c.loop.self c.turn.new.self i.stays h.stays;
      turns = one_turn c.args.callers c.loop.work c.turn.new.work c.args.self.now c.loop.self c.turn.new.self i.stays i.turns made;
    }

pub returns-in_err-turn-clause-lost : goal.returns-in_err-turn-clause-lost
returns-in_err-turn-clause-lost g c =
    let i = c.loop.invariant in
    where_lost c.from_residual.result
    (lost_turn c.args.callers c.loop.work c.args.self.now c.loop.self c.turn.new.self i.stays i.turns c.in_err-turn.ensures.lost)
