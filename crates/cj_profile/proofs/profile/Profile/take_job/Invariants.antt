use Rattle.std.proofs.Common.{◌-◌, List, ◌++◌, length}
use Rattle.cj_profile.specs.declared.jobs.JobAnswer.{JobAnswer}
use Rattle.cj_profile.specs.declared.view.Read.{Read}
use Rattle.cj_profile.specs.Jobs.{TakesJob}
use Rattle.cj_profile.specs.Seats.{program_of, Belongs, IsSame, Adds}
use Rattle.cj_profile.proofs.profile.Profile.take_job.Given as goal

abbrev pub invariant-loop-number : goal.invariant-loop-number
invariant-loop-number l = record {
  own : Belongs l.self l.seat;
  same : IsSame l.fn.seat l.seat;
  reads : (front : List Read) × Adds front l.fn.seat l.seat
      × ((answer : JobAnswer) (rest : List Read) → TakesJob (length (program_of l.self).functions - l.number) l.number answer rest →
      TakesJob (length (program_of l.self).functions) 0 answer (front ++ rest));
}
