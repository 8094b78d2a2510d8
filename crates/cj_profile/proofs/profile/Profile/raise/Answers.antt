use Rattle.std.proofs.Common.{rules, ◌<◌, Some, None, arith}
use Rattle.cj_profile.proofs.Keeping.{raises}
use Rattle.cj_profile.proofs.Numbers.{inside}
use Rattle.cj_profile.specs.Words.{word_count}
use Rattle.cj_profile.proofs.Adding.{belongs_on}
use Rattle.cj_profile.proofs.profile.Profile.raise.Goals as goal

pub fetch_max-requires : goal.fetch_max-requires
fetch_max-requires c =
    let p = c.args.self.now.table.shared.key in
    let w = c.args.word in
    let few = c.args.self.now.limited in
    let within = inside p w few c.requires.word in
    let e = c.index.ensures in
    (search rules, omega (arith, c.args.self.now.sized), raises _ _ _ _ _ c.requires.own.live _ c.requires.level)

pub returns-clause-own : goal.returns-clause-own
returns-clause-own c =
    let p = c.args.self.now.table.shared.key in
    let within = inside p c.args.word c.args.self.now.limited c.requires.word in
    let e = c.index.ensures in
    let lt : c.index.result < word_count p = omega arith in
    belongs_on c.args.self.now c.args.seat.now _ c.index.result (Some c.fetch_max.result) _ lt c.requires.own c.fetch_max.ensures.0 c.fetch_max.ensures.2.0.0
    c.fetch_max.ensures.2.1
