use Rattle.cj_notes.specs.Waiting.{TurnsMade}
use Rattle.cj_worker.specs.Workers.{program_in, view_in, reads_in, IsReady, Stays}
use Rattle.cj_worker.proofs.worker.Worker.work_until_stopped.Given as goal

abbrev pub invariant-loop : goal.invariant-loop
invariant-loop g l = record {
  ready : IsReady l.self;
  stays : Stays l.fn.self l.self;
  turns : TurnsMade (program_in l.fn.self) l.callers l.work (view_in l.fn.self) (view_in l.self) (reads_in l.fn.self) (reads_in l.self);
}
