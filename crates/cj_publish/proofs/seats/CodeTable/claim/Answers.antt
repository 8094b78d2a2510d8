use Rattle.std.proofs.Common.{rules, ap, ◌∙◌}
use Rattle.cj_publish.specs.declared.view.View.{View}
use Rattle.cj_publish.proofs.Keeps.{fronts, takes}
use Rattle.cj_publish.proofs.seats.CodeTable.claim.Goals as goal

pub load-next-requires : goal.load-next-requires
load-next-requires c = (search rules, search rules, fronts _ _ _ _ c.requires.own.live c.requires.own.key)

pub compare_exchange-found-requires : goal.compare_exchange-found-requires
compare_exchange-found-requires c =
    let i = c.loop-next.invariant in (
      search rules,
      search rules,
      takes _ _ _ _ _ c.from-need.result (ap (λ (v : View). v.live) i.view ∙ c.requires.own.live)
          (ap (λ (v : View). v.key) i.view ∙ c.requires.own.key) (ap (λ (v : View). v.next) i.view) (search rules) (search rules),
    )
