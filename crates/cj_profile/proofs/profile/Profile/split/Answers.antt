use Rattle.std.proofs.Common.{rules, arith}
use Rattle.cj_profile.proofs.Keeping.{splits}
use Rattle.cj_profile.proofs.profile.Profile.split.Goals as goal

pub split_seat-new-requires : goal.split_seat-new-requires
split_seat-new-requires c = (search rules, omega (arith, c.args.self.now.sized), splits _ _ _)
