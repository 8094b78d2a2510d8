use Rattle.std.proofs.Common.{rules, arith}
use Rattle.cj_profile.proofs.Keeping.{joins}
use Rattle.cj_profile.proofs.profile.Profile.join.Goals as goal

pub join_seat-requires : goal.join_seat-requires
join_seat-requires c = (search rules, search rules, search rules, omega (arith, c.args.self.now.sized), joins _ _ _ _ _)
