use Rattle.std.proofs.Common.{List, ◌∙◌, inr, sym, ap, subst, arith, ℕ, ◌++◌, append_assoc}
use Rattle.cj_ir.specs.declared.language.Program.{Program}
use Rattle.cj_base.specs.Run.{Begun}
use Rattle.cj_base.specs.declared.machine.Turned.{Turned}
use Rattle.cj_calls.specs.declared.report.Look.{Look}
use Rattle.cj_machine.specs.Versions.{State, Codes}
use Rattle.cj_machine.specs.Marks.{Mark}
use Rattle.cj_machine.specs.VersionRuns.{report_of}
use Rattle.cj_machine.specs.CodeMaps.{SoundCodes}
use Rattle.cj_engine.specs.Engines.{begun_with, HasRoom, end_after}
use Rattle.cj_machine.specs.CallRuns.{IsRun, HasFinished, RunGoes}
use Rattle.cj_engine.specs.Stretches.{Onward, Halted}
use Rattle.cj_machine.proofs.Reporting.{report_agrees}
use Rattle.cj_engine.proofs.Keeping.{keeps_then}
use Rattle.cj_engine.proofs.Onwards.{whole_run, whole_marks, refused_so}
use Rattle.cj_engine.proofs.Stopping.{halted_stops}
use Rattle.cj_engine.proofs.calls.run_from.Goals as goal
use Rattle.cj_engine.proofs.calls.run_from.Goals.{In_ok-turned}

-- the run once all its turns are made
record AllTurns (P : Program) (went : List Mark → Type 0) (later : Codes) (now : List Look) (call : Begun) (s : State) (answer : Turned)
    (t : State) : Type 0 where
  sound : SoundCodes P later
  onward : Onward P went later now call.limit s answer t
  finished : HasFinished P later now call (end_after answer) t

all_turns : (g : _) (c : In_ok-turned g) → AllTurns c.args.checked.now (g.W.Watch.went c.start_from.new.watch c.advance.new.watch)
    (g.W.Watch.codes c.advance.new.watch) c.advance.new.self.looks (begun_with c.args.call.now c.args.memory) c.in_ok-engine.engine.state
    c.in_ok-turned.turned c.advance.new.self.state
unfolding begun_with
all_turns g c =
    let e = c.in_ok-engine.ensures in
    let a = c.in_ok-turned.ensures in
    let P = c.args.checked.now in
    let codes = g.W.Watch.codes c.start_from.new.watch in
    let later = g.W.Watch.codes c.advance.new.watch in
    let went = g.W.Watch.went c.start_from.new.watch c.advance.new.watch in
    let call = begun_with c.args.call.now c.args.memory in
    let looks = c.in_ok-engine.engine.looks in
    let now = c.advance.new.self.looks in
    let s = c.in_ok-engine.engine.state in
    let t = c.advance.new.self.state in
    let answer = c.in_ok-turned.turned in
    let first = e.no_turns in
    let count = c.from.ensures in
    let own = subst (λ (Q : Program). Onward Q went later now c.from.result s answer t) e.program a.onward in
    let onward : Onward P went later now call.limit s answer t = subst (λ (n : ℕ). Onward P went later now n s answer t) count own in
    let run = subst (λ (Q : Program). IsRun Q codes looks call s) (sym e.program) e.run in
    let goes = subst (λ (Q : Program). RunGoes Q later now call answer t) e.program (a.goes call run (omega arith)) in
    let kept = g.met.W.Watch.sound c.advance.new.watch a.keeps.ready in
    record {
      sound = subst (λ (Q : Program). SoundCodes Q later) (a.keeps.same ∙ e.keeps.same ∙ c.requires.program) kept;
      onward = onward;
      finished = whole_run P went later now call s answer t goes first onward;
    }

pub advance-requires-clause-room : goal.advance-requires-clause-room
unfolding begun_with
advance-requires-clause-room g c =
    let e = c.in_ok-engine.ensures in
    let s = c.in_ok-engine.engine.state in
    let first = e.no_turns in
    let count = c.from.ensures in
    let limit = c.requires.limit in
    subst (λ (Q : Program). HasRoom Q (g.W.Watch.codes c.start_from.new.watch) c.from.result s) (sym e.program) (record {
      call = begun_with c.args.call.now c.args.memory;
      takes = e.run.takes;
      stands = e.run.stands;
      room = omega arith;
      limit = e.run.limit;
    })

pub returns-clause-looked : goal.returns-clause-looked
unfolding report_of
returns-clause-looked g c =
    let first = c.in_ok-engine.ensures.gains in
    let then = c.in_ok-turned.ensures.gains in
    let old = g.W.Watch.trail c.args.watch.now in
    let looks = c.in_ok-engine.engine.looks in
    let begun = first.trail_more ∙ ap (λ more. old ++ more) (sym first.looks_more) in
    rw c.ran.ensures.report
    (then.trail_more ∙ ap (λ t. t ++ then.more) begun ∙ append_assoc old looks then.more ∙ ap (λ ls. old ++ ls) (sym then.looks_more))

pub returns-clause-report : goal.returns-clause-report
unfolding report_of begun_with
returns-clause-report g c =
    let all = all_turns g (goal.at.returns-clause-report g c).In_ok-turned in
    rw (c.ran.ensures.report, c.end_after.ensures) all.finished.report

pub returns-clause-headline : goal.returns-clause-headline
unfolding report_of begun_with
returns-clause-headline g c =
    let all = all_turns g (goal.at.returns-clause-headline g c).In_ok-turned in
    let formed = c.program-program.ensures.well_formed in
    let call = begun_with c.args.call.now c.args.memory in
    let later = g.W.Watch.codes c.advance.new.watch in
    rw (c.ran.ensures.report, c.end_after.ensures)
    (report_agrees c.args.checked.now later call formed all.sound c.advance.new.self.looks _ c.requires.takes all.finished.report)

pub returns-clause-memory : goal.returns-clause-memory
unfolding report_of begun_with
returns-clause-memory g c =
    let all = all_turns g (goal.at.returns-clause-memory g c).In_ok-turned in
    rw (c.ran.ensures.report, c.ran.ensures.memory) all.finished.memory

pub returns-clause-agrees : goal.returns-clause-agrees
unfolding report_of begun_with
returns-clause-agrees g c =
    let all = all_turns g (goal.at.returns-clause-agrees g c).In_ok-turned in
    rw (c.ran.ensures.report, c.ran.ensures.memory) all.finished.agrees

pub returns-clause-went : goal.returns-clause-went
unfolding report_of begun_with
returns-clause-went g c =
    let all = all_turns g (goal.at.returns-clause-went g c).In_ok-turned in
    let e = c.in_ok-engine.ensures in
    let a = c.in_ok-turned.ensures in
    let codes = g.W.Watch.codes c.start_from.new.watch in
    let later = g.W.Watch.codes c.advance.new.watch in
    let call = begun_with c.args.call.now c.args.memory in
    let looks = c.in_ok-engine.engine.looks in
    let now = c.advance.new.self.looks in
    let marks = whole_marks c.args.checked.now codes later looks a.gains.more now call _ a.keeps.grows a.gains.looks_more e.run e.no_turns in
    let both = g.met.W.Watch.went_on c.args.watch.now c.start_from.new.watch c.advance.new.watch _ _ e.went all.onward.told in
    rw c.ran.ensures.report (subst (g.W.Watch.went c.args.watch.now c.advance.new.watch) (sym marks) both)

pub returns-clause-keeps : goal.returns-clause-keeps
returns-clause-keeps g c =
    keeps_then _ _ _ _ _ _ _ (g.met.W.Watch.stays_on _ _ _) c.in_ok-engine.ensures.keeps c.in_ok-turned.ensures.keeps

pub returns-in_err-turned-clause-keeps : goal.returns-in_err-turned-clause-keeps
returns-in_err-turned-clause-keeps g c =
    keeps_then _ _ _ _ _ _ _ (g.met.W.Watch.stays_on _ _ _) c.in_ok-engine.ensures.keeps c.in_err-turned.ensures.keeps

pub returns-in_err-turned-clause-stopped : goal.returns-in_err-turned-clause-stopped
unfolding begun_with
returns-in_err-turned-clause-stopped g c =
    let e = c.in_ok-engine.ensures in
    let a = c.in_err-turned.ensures in
    let P = c.args.checked.now in
    let codes = g.W.Watch.codes c.start_from.new.watch in
    let later = g.W.Watch.codes c.advance.new.watch in
    let call = begun_with c.args.call.now c.args.memory in
    let looks = c.in_ok-engine.engine.looks in
    let now = c.advance.new.self.looks in
    let s = c.in_ok-engine.engine.state in
    let t = c.advance.new.self.state in
    let before = g.W.Watch.trail c.args.watch.now in
    let between = g.W.Watch.trail c.start_from.new.watch in
    let after = g.W.Watch.trail c.advance.new.watch in
    let one = g.W.Watch.went c.args.watch.now c.start_from.new.watch in
    let other = g.W.Watch.went c.start_from.new.watch c.advance.new.watch in
    let went = g.W.Watch.went c.args.watch.now c.advance.new.watch in
    let own = subst (λ (Q : Program). Halted Q other later looks now between after c.from.result s t) e.program a.halted in
    let halted : Halted P other later looks now between after call.limit s t =
    subst (λ (n : ℕ). Halted P other later looks now between after n s t) c.from.ensures own in
    let both = g.met.W.Watch.went_on c.args.watch.now c.start_from.new.watch c.advance.new.watch in
    refused_so _ _ (inr (halted_stops P one other went codes later looks now before between after call s t
    a.keeps.grows both e.gains e.went e.run e.no_turns halted))
