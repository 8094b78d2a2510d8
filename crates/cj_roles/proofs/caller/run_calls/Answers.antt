use Rattle.std.proofs.Common.{◌≡◌, ◌<◌, ◌≤◌, sym, subst, List, length, rules, arith}
use Rattle.cj_calls.specs.declared.report.Report.{Report}
use Rattle.cj_session.specs.Laws.{stays_same, stays_on}
use Rattle.cj_roles.proofs.Calling.{RunsSome, runs_none, runs_more, runs_all}
use Rattle.cj_roles.proofs.caller.run_calls.Goals as goal

pub loop-at-init : goal.loop-at-init
loop-at-init g c = record {
  ready = c.requires.ready;
  stays = stays_same c.args.session.now;
  runs = subst (λ (rs : List Report). RunsSome c.args.calls.now c.args.callers c.args.first c.args.first rs c.args.session.now c.args.session.now)
      (sym c.new-reports.ensures.items) (runs_none c.args.calls.now c.args.callers c.args.first c.args.session.now);
}

pub returns-in_err-run_call-clause-stays : goal.returns-in_err-run_call-clause-stays
returns-in_err-run_call-clause-stays g c = stays_on c.args.session.now c.loop-at.session c.run_call.new.session c.loop-at.invariant.stays
    c.run_call.ensures.stays

pub loop-at-preserved : goal.loop-at-preserved
loop-at-preserved g c =
    let first = c.requires.callers.0 in
    let within : c.loop-at.at < length c.args.calls.now = search rules in record {
      ready = c.run_call.ensures.ready;
      stays = stays_on c.args.session.now c.loop-at.session c.run_call.new.session c.loop-at.invariant.stays c.run_call.ensures.stays;
      runs = runs_more c.args.calls.now c.args.callers c.args.first c.args.session.now c.loop-at.at c.loop-at.reports.items c.loop-at.session
          c.loop-at.invariant.runs
          c.index-calls-at.result c.run_call.new.reports.items c.run_call.new.session c.loop-at.invariant.stays c.run_call.ensures.ready
          (omega (arith, first)) within c.index-calls-at.is c.in_ok-run_call.ensures.ran;
    }

pub returns-clause-ran : goal.returns-clause-ran
returns-clause-ran g c =
    let past : length c.args.calls.now ≤ c.loop-at.at = search rules in
    runs_all c.args.calls.now c.args.callers c.args.first c.args.session.now c.loop-at.at c.loop-at.reports.items c.loop-at.session c.loop-at.invariant.runs
    past
