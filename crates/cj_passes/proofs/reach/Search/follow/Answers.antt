use Rattle.std.proofs.Common.{◌≡◌, ◌∙◌, ◌<◌, Some, length, sym, ap, subst, arith}
use Rattle.std.specs.Prelude.{All}
use Rattle.std.proofs.lemmas.Option.{same_Some}
use Rattle.cj_ir.specs.declared.language.Label.{Label}
use Rattle.cj_draft.specs.Arrives.{place_at}
use Rattle.cj_draft.specs.Edges.{successors}
use Rattle.cj_passes.specs.Lowering.{passed, Reached}
use Rattle.cj_passes.specs.Search.{AreLed}
use Rattle.cj_rows.proofs.Closed.{edges_within}
use Rattle.cj_rows.proofs.ListReads.{get-read}
use Rattle.cj_passes.proofs.Searching.{reached_within, reached_edges}
use Rattle.cj_passes.proofs.reach.Search.follow.Goals as goal

pub bounds-items-label : goal.bounds-items-label
bounds-items-label c =
    omega (
      arith,
      reached_within c.args.code.now c.args.label c.requires.closed (c.requires.search.reached c.args.label c.requires.found),
      ap length
          c.items.ensures,
    )

pub visit_all-requires-clause-within : goal.visit_all-requires-clause-within
visit_all-requires-clause-within c =
    let code = c.args.code.now in
    let x = c.args.label in
    let place = c.index-items-label.result in
    let inside = reached_within code x c.requires.closed (c.requires.search.reached x c.requires.found) in
    let at : place_at code x ≡ Some place = get-read code.places c.items.result.now x.0 place c.items.ensures inside c.index-items-label.is in
    subst (λ nexts. All (λ (next : Label). next.0 < length code.places) nexts) (sym c.successors.ensures) (edges_within code x place c.requires.closed at)

pub visit_all-requires-clause-reached : goal.visit_all-requires-clause-reached
visit_all-requires-clause-reached c =
    let code = c.args.code.now in
    let x = c.args.label in
    let place = c.index-items-label.result in
    let reached = c.requires.search.reached x c.requires.found in
    let inside = reached_within code x c.requires.closed reached in
    let at : place_at code x ≡ Some place = get-read code.places c.items.result.now x.0 place c.items.ensures inside c.index-items-label.is in
    subst (λ nexts. All (λ (next : Label). Reached code (passed code next)) nexts) (sym c.successors.ensures) (reached_edges code x place reached at)

pub returns-clause-followed : goal.returns-clause-followed
returns-clause-followed c = λ place at.
    let code = c.args.code.now in
    let x = c.args.label in
    let read = c.index-items-label.result in
    let found = c.visit_all.new.self.found in
    let inside = reached_within code x c.requires.closed (c.requires.search.reached x c.requires.found) in
    let here : place_at code x ≡ Some read = get-read code.places c.items.result.now x.0 read c.items.ensures inside c.index-items-label.is in
    let same : read ≡ place = same_Some read place (sym here ∙ at) in
    subst (λ p. AreLed code found (successors p.instr)) same
    (subst (AreLed code found) c.successors.ensures c.in_ok-visit_all.ensures.found)
