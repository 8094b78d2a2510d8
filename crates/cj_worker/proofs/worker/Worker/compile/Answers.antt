use Rattle.std.proofs.Common.{subst}
use Rattle.cj_ir.specs.declared.language.Program.{Program}
use Rattle.cj_profile.specs.Seats as counts
use Rattle.cj_publish.specs.Seats.{view_of}
use Rattle.cj_worker.specs.Tasks.{GivesNote}
use Rattle.cj_worker.proofs.Doing.{job_done}
use Rattle.cj_worker.proofs.worker.Worker.compile.Goals as goal

pub returns-clause-done : goal.returns-clause-done
returns-clause-done c =
    let w = c.args.self.now in
    let h = c.in_ok-task.ensures in
    let v = view_of w.code_seat in
    let v' = view_of c.finish.new.seat in
    let gives = subst (λ (P : Program). GivesNote P c.finish.result v v') c.requires.ready.program c.finish.ensures.worked in
    job_done w.checked.now c.args.f c.args.level c.in_ok-task.task c.finish.result v v' (counts.reads_of w.profile_seat)
    (counts.reads_of c.prepare.new.seat) h.task c.finish.ensures.job gives h.reads
