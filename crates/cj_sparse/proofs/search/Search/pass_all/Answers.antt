use Rattle.std.proofs.Common.{◌≡◌, ◌∙◌, ◌<◌, length, sym, ap, Some, arith}
use Rattle.std.specs.Option.{option_map}
use Rattle.cj_draft.specs.Arrives.{place_at}
use Rattle.cj_const.specs.Knowledge.{known}
use Rattle.cj_const.specs.Flow.{leaves}
use Rattle.cj_const.specs.Search.{reached_at}
use Rattle.cj_const.proofs.SearchCalls.{place-read}
use Rattle.cj_sparse.proofs.Passing.{above-next, rests-told}
use Rattle.cj_sparse.proofs.SearchCalls.{row-here, edge-inside, passed-at}
use Rattle.cj_sparse.proofs.search.Search.pass_all.Goals as goal

pub arrive-requires-clause-within : goal.arrive-requires-clause-within
arrive-requires-clause-within c =
    let draft = c.args.draft.now in
    let p = c.index-items-label.result in
    let at : place_at draft.code c.args.label
    ≡ Some p = place-read draft.code c.code.result.now c.items.result.now c.args.label p c.code.ensures.same c.items.ensures c.requires.within
    c.index-items-label.is in
    edge-inside draft.program draft.code c.args.label c.args.to p c.code.ensures.sound.named.places at (c.requires.edge p at)

pub arrive-requires-clause-above : goal.arrive-requires-clause-above
arrive-requires-clause-above c =
    let draft = c.args.draft.now in
    let rows = c.args.self.now.rows.items in
    let p = c.index-items-label.result in
    let at : place_at draft.code c.args.label
    ≡ Some p = place-read draft.code c.code.result.now c.items.result.now c.args.label p c.code.ensures.same c.items.ensures c.requires.within
    c.index-items-label.is in
    let inside : c.args.label.0 < length rows = omega (arith, c.requires.within, c.requires.begun.found.count) in
    let here : reached_at rows c.args.label
    ≡ Some (known c.in-Some.row) = row-here rows c.args.label c.index.result.now c.in-Some.row inside c.index.ensures c.in-Some.is in
    let leaving : leaves (known c.in-Some.row) p.instr c.args.to ≡ Some (known c.in-Some-2.arrival) = sym c.in_ok-arrival.ensures.leaves
    ∙ ap (option_map known) c.in-Some-2.is in
    above-next draft.context draft.code rows c.args.self.now.work.items c.args.label c.args.to p (known c.in-Some.row)
    (known c.in-Some-2.arrival) c.requires.begun at (c.requires.edge p at) here leaving

pub returns-clause-passed : goal.returns-clause-passed
returns-clause-passed c =
    let draft = c.args.draft.now in
    let rows = c.args.self.now.rows.items in
    let rows' = c.arrive.new.self.rows.items in
    let work' = c.arrive.new.self.work.items in
    let p = c.index-items-label.result in
    let at : place_at draft.code c.args.label
    ≡ Some p = place-read draft.code c.code.result.now c.items.result.now c.args.label p c.code.ensures.same c.items.ensures c.requires.within
    c.index-items-label.is in
    let inside : c.args.label.0 < length rows = omega (arith, c.requires.within, c.requires.begun.found.count) in
    let here : reached_at rows c.args.label
    ≡ Some (known c.in-Some.row) = row-here rows c.args.label c.index.result.now c.in-Some.row inside c.index.ensures c.in-Some.is in
    let leaving : leaves (known c.in-Some.row) p.instr c.args.to ≡ Some (known c.in-Some-2.arrival) = sym c.in_ok-arrival.ensures.leaves
    ∙ ap (option_map known) c.in-Some-2.is in
    passed-at draft.code rows' work' c.args.label c.args.to p at
    (rests-told rows rows' c.args.self.now.work.items work' p.instr c.args.label c.args.to (known c.in-Some.row)
    (known c.in-Some-2.arrival) here leaving c.in_ok-arrive.ensures.goes.lowers c.in_ok-arrive.ensures.told)
