use Rattle.std.proofs.Common.{◌≡◌, ◌∙◌, ◌<◌, length, sym, Some, arith}
use Rattle.cj_draft.specs.Arrives.{place_at}
use Rattle.cj_const.specs.Knowledge.{known}
use Rattle.cj_const.specs.Flow.{leaves}
use Rattle.cj_const.specs.Search.{reached_at}
use Rattle.cj_const.proofs.SearchCalls.{place-read}
use Rattle.cj_sparse.proofs.Passing.{rests-assigned, rests-dead}
use Rattle.cj_sparse.proofs.SearchCalls.{none-from, row-here, edge-inside, passed-at, loss-goes, loss-rests}
use Rattle.cj_sparse.proofs.search.Search.pass_loss.Goals as goal

pub returns-then-assigns-clause-passed : goal.returns-then-assigns-clause-passed
returns-then-assigns-clause-passed c =
    let draft = c.args.draft.now in
    let rows = c.args.self.now.rows.items in
    let work = c.args.self.now.work.items in
    let p = c.index-items-label.result in
    let at : place_at draft.code c.args.label
    ≡ Some p = place-read draft.code c.code.result.now c.items.result.now c.args.label p c.code.ensures.same c.items.ensures c.requires.item.label
    c.index-items-label.is in
    passed-at draft.code rows work c.args.label c.args.to p at
    (rests-assigned rows work p.instr c.args.label c.args.to c.args.reg c.requires.item.lost (c.requires.unread p at)
    (sym c.assigns.ensures ∙ c.if-assigns.true) (c.requires.rests p at))

pub returns-then-not-goes_on-clause-passed : goal.returns-then-not-goes_on-clause-passed
returns-then-not-goes_on-clause-passed c =
    let draft = c.args.draft.now in
    let rows = c.args.self.now.rows.items in
    let work = c.args.self.now.work.items in
    let p = c.index-items-label.result in
    let at : place_at draft.code c.args.label
    ≡ Some p = place-read draft.code c.code.result.now c.items.result.now c.args.label p c.code.ensures.same c.items.ensures c.requires.item.label
    c.index-items-label.is in
    let inside : c.args.label.0 < length rows = omega (arith, c.requires.item.label, c.requires.begun.found.count) in
    let here : reached_at rows c.args.label
    ≡ Some (known c.in-Some.row) = row-here rows c.args.label c.index.result.now c.in-Some.row inside c.index.ensures c.in-Some.is in
    passed-at draft.code rows work c.args.label c.args.to p at
    (rests-dead rows work p.instr c.args.label c.args.to (known c.in-Some.row) here
    (none-from (leaves (known c.in-Some.row) p.instr c.args.to) (sym c.goes_on.ensures ∙ c.if-not-goes_on.true)))

pub meet-requires : goal.meet-requires
meet-requires c =
    let draft = c.args.draft.now in
    let p = c.index-items-label.result in
    let at : place_at draft.code c.args.label
    ≡ Some p = place-read draft.code c.code.result.now c.items.result.now c.args.label p c.code.ensures.same c.items.ensures c.requires.item.label
    c.index-items-label.is in
    let next = edge-inside draft.program draft.code c.args.label c.args.to p c.code.ensures.sound.named.places at (c.requires.edge p at) in
    omega (arith, next, c.requires.begun.found.count)

pub returns-clause-goes : goal.returns-clause-goes
returns-clause-goes c =
    let draft = c.args.draft.now in
    let rows = c.args.self.now.rows.items in
    let p = c.index-items-label.result in
    let at : place_at draft.code c.args.label
    ≡ Some p = place-read draft.code c.code.result.now c.items.result.now c.args.label p c.code.ensures.same c.items.ensures c.requires.item.label
    c.index-items-label.is in
    let next = edge-inside draft.program draft.code c.args.label c.args.to p c.code.ensures.sound.named.places at (c.requires.edge p at) in
    let inside : c.args.label.0 < length rows = omega (arith, c.requires.item.label, c.requires.begun.found.count) in
    let here : reached_at rows c.args.label
    ≡ Some (known c.in-Some.row) = row-here rows c.args.label c.index.result.now c.in-Some.row inside c.index.ensures c.in-Some.is in
    loss-goes draft.context draft.code rows c.meet.new.self.rows.items c.args.self.now.work.items c.meet.new.self.work.items c.args.label c.args.to c.args.reg
    p c.in-Some.row c.requires.begun c.requires.item at (c.requires.edge p at) next here
    (c.requires.unread p at) (sym c.assigns.ensures ∙ c.if-assigns.false) (sym c.goes_on.ensures ∙ c.if-not-goes_on.false) c.in_ok-meet.ensures

pub returns-clause-passed : goal.returns-clause-passed
returns-clause-passed c =
    let draft = c.args.draft.now in
    let rows = c.args.self.now.rows.items in
    let p = c.index-items-label.result in
    let at : place_at draft.code c.args.label
    ≡ Some p = place-read draft.code c.code.result.now c.items.result.now c.args.label p c.code.ensures.same c.items.ensures c.requires.item.label
    c.index-items-label.is in
    let next = edge-inside draft.program draft.code c.args.label c.args.to p c.code.ensures.sound.named.places at (c.requires.edge p at) in
    let inside : c.args.label.0 < length rows = omega (arith, c.requires.item.label, c.requires.begun.found.count) in
    let here : reached_at rows c.args.label
    ≡ Some (known c.in-Some.row) = row-here rows c.args.label c.index.result.now c.in-Some.row inside c.index.ensures c.in-Some.is in
    loss-rests draft.context draft.code rows c.meet.new.self.rows.items c.args.self.now.work.items c.meet.new.self.work.items c.args.label c.args.to c.args.reg
    p c.in-Some.row c.requires.begun c.requires.item at (c.requires.edge p at) next here
    (c.requires.unread p at) (sym c.assigns.ensures ∙ c.if-assigns.false) (sym c.goes_on.ensures ∙ c.if-not-goes_on.false) c.in_ok-meet.ensures
    (c.requires.rests p at)
