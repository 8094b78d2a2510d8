use Rattle.std.proofs.Common.{◌≡◌, List, subst, Some}
use Rattle.std.specs.Prelude.{ℤ}
use Rattle.cj_base.specs.Run.{begun}
use Rattle.cj_calls.specs.Reports.{ReportStands, IsWhole}
use Rattle.cj_machine.specs.VersionRuns.{version_report}
use Rattle.cj_machine.specs.Marks.{run_marks}
use Rattle.cj_engine.specs.Engines.{begun_with}
use Rattle.cj_engine.specs.Stopped.{Stopped}
use Rattle.cj_engine.proofs.Onwards.{refused_so}
use Rattle.cj_engine.proofs.calls.run.Goals as goal

pub returns-clause-report : goal.returns-clause-report
unfolding begun begun_with
returns-clause-report g c =
    let zeros = c.in_ok-memory.ensures in
    let P = c.args.checked.now in
    let later = g.W.Watch.codes c.run_from.new.watch in
    let r = c.in_ok-ran.ran.report in
    subst (λ (memory : List ℤ). version_report P later r.looks (begun_with c.args.call.now memory) ≡ Some r) zeros c.in_ok-ran.ensures.report

pub returns-clause-headline : goal.returns-clause-headline
unfolding begun begun_with
returns-clause-headline g c =
    let zeros = c.in_ok-memory.ensures in
    let P = c.args.checked.now in
    let later = g.W.Watch.codes c.run_from.new.watch in
    let r = c.in_ok-ran.ran.report in
    subst (λ (memory : List ℤ). ReportStands P (begun_with c.args.call.now memory) r × IsWhole P (begun_with c.args.call.now memory) r) zeros
    c.in_ok-ran.ensures.headline

pub returns-clause-went : goal.returns-clause-went
unfolding begun begun_with
returns-clause-went g c =
    let zeros = c.in_ok-memory.ensures in
    let P = c.args.checked.now in
    let later = g.W.Watch.codes c.run_from.new.watch in
    let r = c.in_ok-ran.ran.report in
    subst (λ (memory : List ℤ). g.W.Watch.went c.args.watch.now c.run_from.new.watch
    (run_marks P later r.looks (begun_with c.args.call.now memory) c.args.call.now.limit)) zeros c.in_ok-ran.ensures.went

pub returns-in_err-ran-clause-stopped : goal.returns-in_err-ran-clause-stopped
unfolding begun begun_with
returns-in_err-ran-clause-stopped g c =
    let zeros = c.in_ok-memory.ensures in
    let before = c.args.watch.now in
    let after = c.run_from.new.watch in
    refused_so _ _
    (subst (λ (memory : List ℤ). Stopped c.args.checked.now (g.W.Watch.went before after) (g.W.Watch.codes after) (g.W.Watch.trail before)
    (g.W.Watch.trail after) (begun_with c.args.call.now memory)) zeros c.in_err-ran.ensures.stopped)
