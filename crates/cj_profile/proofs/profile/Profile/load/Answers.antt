use Rattle.std.proofs.Common.{rules, Some, None, ◌<◌, sym, ◌∙◌, subst, length, arith}
use Rattle.cj_ir.specs.declared.language.Program.{Program}
use Rattle.cj_profile.proofs.Keeping.{loads}
use Rattle.cj_profile.proofs.Numbers.{inside, low}
use Rattle.cj_profile.specs.Words.{word_count}
use Rattle.cj_profile.proofs.Adding.{belongs_on}
use Rattle.cj_profile.proofs.profile.Profile.load.Goals as goal

pub load-requires : goal.load-requires
load-requires c =
    let p = c.args.self.now.table.shared.key in
    let w = c.args.word in
    let few = c.args.self.now.limited in
    let within = inside p w few c.requires.word in
    let e = c.index.ensures in
    (search rules, omega (arith, c.args.self.now.sized), loads _ _ _ _ _ c.requires.own.live)

pub returns-clause-low : goal.returns-clause-low
returns-clause-low c =
    let own = c.requires.own.program in
    let told = c.load.ensures.2.1 in
    low c.args.self.now.table.shared.key c.args.word c.load.result c.requires.word
    (λ f lt z. told f (subst (λ (y : Program). f.0 < length y.functions) (sym own) lt) (c.index.ensures ∙ z))

pub returns-clause-own : goal.returns-clause-own
returns-clause-own c =
    let p = c.args.self.now.table.shared.key in
    let within = inside p c.args.word c.args.self.now.limited c.requires.word in
    let e = c.index.ensures in
    let lt : c.index.result < word_count p = omega arith in
    belongs_on c.args.self.now c.args.seat.now _ c.index.result (Some c.load.result) c.load.result lt c.requires.own c.load.ensures.0 c.load.ensures.2.0.0
    c.load.ensures.2.2
