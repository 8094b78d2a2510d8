use Rattle.std.proofs.Common.{subst}
use Rattle.std.proofs.lemmas.Result.{IfOk-weaker, on_err_weaker}
use Rattle.cj_ir.specs.declared.language.Program.{Program}
use Rattle.cj_notes.specs.declared.notes.WorkNote.{WorkNote}
use Rattle.cj_notes.specs.JobParts.{Takes}
use Rattle.cj_notes.specs.Works.{WorkedOne, WorkFailed}
use Rattle.cj_profile.specs.Seats as counts
use Rattle.cj_worker.specs.Answers.{Answered, AnswerFailed}
use Rattle.cj_worker.specs.Workers.{program_in, view_in, reads_in}
use Rattle.cj_worker.proofs.Answering.{worked_by, failed_by}
use Rattle.cj_worker.proofs.worker.Worker.work_one.Goals as goal

pub returns-clause-worked : goal.returns-clause-worked
returns-clause-worked c =
    let w = c.args.self.now in
    let h = c.take_job-found.ensures.reads in
    let P = program_in w in
    let v = view_in w in
    let v' = view_in c.answer.new.self in
    let mid = counts.reads_of c.take_job-found.new.seat in
    let new = reads_in c.answer.new.self in
    let found = c.take_job-found.result in
    let takes = subst (λ (Q : Program). Takes Q found h.0) c.requires.ready.counted h.1 in
    IfOk-weaker c.answer.result (λ (n : WorkNote). Answered P found n v v' mid new) (λ (n : WorkNote). WorkedOne P n v v' (reads_in w) new)
    (λ (n : WorkNote). worked_by P v v' c.requires.ready.free (reads_in w) mid new h.0 h.2 found n takes) c.answer.ensures.answered

pub returns-clause-failed : goal.returns-clause-failed
returns-clause-failed c =
    let w = c.args.self.now in
    let h = c.take_job-found.ensures.reads in
    let P = program_in w in
    let v = view_in w in
    let v' = view_in c.answer.new.self in
    let mid = counts.reads_of c.take_job-found.new.seat in
    let new = reads_in c.answer.new.self in
    let found = c.take_job-found.result in
    let takes = subst (λ (Q : Program). Takes Q found h.0) c.requires.ready.counted h.1 in
    on_err_weaker c.answer.result
    (λ (failed : AnswerFailed found v v' mid new). failed_by P v v' c.requires.ready.free (reads_in w) mid new h.0 h.2 found takes failed)
    c.answer.ensures.failed
