use Rattle.std.proofs.Common.{sym, subst, [], ◌∷◌}
use Rattle.std.specs.Prelude.{All}
use Rattle.std.proofs.lemmas.List.Elements.{All-head, All-tail}
use Rattle.cj_ir.specs.declared.language.Label.{Label}
use Rattle.cj_draft.specs.Edges.{listed}
use Rattle.cj_passes.specs.Lowering.{passed, Reached}
use Rattle.cj_passes.specs.Search.{AreLed}
use Rattle.cj_passes.proofs.Searching.{led_none, led_more, grows_contains}
use Rattle.cj_passes.proofs.reach.Search.visit_all.Goals as goal

pub visit-requires-in-Two-2-clause-reached : goal.visit-requires-in-Two-2-clause-reached
visit-requires-in-Two-2-clause-reached c =
    let P = λ (next : Label). Reached c.args.code.now (passed c.args.code.now next) in
    let all = subst (λ n. All P (listed n)) c.in-Two.is c.requires.reached in
    All-head P c.in-Two.else_to [] (All-tail P c.in-Two.then_to (c.in-Two.else_to ∷ []) all)

pub returns-in_ok-visit-in-Two-2-clause-found : goal.returns-in_ok-visit-in-Two-2-clause-found
returns-in_ok-visit-in-Two-2-clause-found c =
    let code = c.args.code.now in
    let found = c.visit-in-Two-2.new.self.found in
    let first = grows_contains c.visit-in-Two.new.self.found found (passed code c.in-Two.then_to) c.in_ok-visit-in-Two-2.ensures.grows
    c.in_ok-visit-in-Two.ensures.found in
    subst (λ n. AreLed code found (listed n)) (sym c.in-Two.is)
    (led_more code found c.in-Two.then_to (c.in-Two.else_to ∷ []) first
    (led_more code found c.in-Two.else_to [] c.in_ok-visit-in-Two-2.ensures.found (led_none code found)))
