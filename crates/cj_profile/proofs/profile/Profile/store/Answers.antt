use Rattle.std.proofs.Common.{rules, ◌<◌, Some, None, sym, ◌∙◌, arith}
use Rattle.cj_profile.proofs.Keeping.{stores}
use Rattle.cj_profile.proofs.Numbers.{inside, apart}
use Rattle.cj_profile.specs.Words.{word_count}
use Rattle.cj_profile.proofs.Adding.{belongs_on}
use Rattle.cj_profile.proofs.profile.Profile.store.Goals as goal

pub store-requires : goal.store-requires
store-requires c =
    let p = c.args.self.now.table.shared.key in
    let w = c.args.word in
    let few = c.args.self.now.limited in
    let within = inside p w few c.requires.word in
    let e = c.index.ensures in (
      search rules,
      omega (arith, c.args.self.now.sized),
      stores _ _ _ _ _ c.requires.own.live _
          (λ f lt z. apart p w few c.requires.word c.requires.free f (sym e ∙ z)),
    )

pub returns-clause-own : goal.returns-clause-own
returns-clause-own c =
    let p = c.args.self.now.table.shared.key in
    let within = inside p c.args.word c.args.self.now.limited c.requires.word in
    let e = c.index.ensures in
    let lt : c.index.result < word_count p = omega arith in
    belongs_on c.args.self.now c.args.seat.now _ c.index.result None c.args.value lt c.requires.own c.store.ensures.0 c.store.ensures.2.0 (λ only lt. tt)
