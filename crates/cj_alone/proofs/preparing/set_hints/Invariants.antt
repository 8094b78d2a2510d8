use Rattle.std.proofs.Common.{take}
use Rattle.cj_profile.specs.Seats.{program_of, Belongs, IsSame, AddsPart}
use Rattle.cj_alone.specs.Preparing.{HintsPart}
use Rattle.cj_alone.proofs.preparing.set_hints.Given as goal

abbrev pub invariant-loop-setup : goal.invariant-loop-setup
invariant-loop-setup l = record {
  own : Belongs l.profile l.seat;
  same : IsSame l.initial.seat l.seat;
  part : AddsPart (HintsPart (program_of l.profile) (take l.setup-index l.setups)) l.initial.seat l.seat;
}
