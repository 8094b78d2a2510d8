use Rattle.std.proofs.Common.{refl}
use Rattle.cj_delay.specs.DelayedAssume.{with_backs}
use Rattle.cj_delay.proofs.delays.mark_place.Goals as goal

pub returns : goal.returns
unfolding with_backs
returns c = record { backs = c.add_pair.new.backs; with_pair = c.in_ok-add_pair.ensures.ok; same = refl }
