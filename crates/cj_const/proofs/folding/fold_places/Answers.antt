use Rattle.std.proofs.Common.{sym}
use Rattle.cj_ir.proofs.ListReads.{all_at}
use Rattle.cj_draft.specs.WellNamed.{HasFineFacts}
use Rattle.cj_const.proofs.FoldedPlaces.{none-folded, next-within, next-place, next-step}
use Rattle.cj_const.proofs.folding.fold_places.Goals as goal

pub loop-label-init : goal.loop-label-init
loop-label-init c = sym (none-folded c.args.regs c.args.places.now c.args.table.now)

pub item_mut-requires : goal.item_mut-requires
item_mut-requires c =
    let now = c.loop-label in
    next-within c.args.regs c.args.places.now c.args.table.now now.label now.places c.requires.count now.invariant c.loop-label-test.true

pub fold_place-requires-clause-own : goal.fold_place-requires-clause-own
fold_place-requires-clause-own c =
    let regs = c.args.regs in
    let places = c.args.places.now in
    let now = c.loop-label in
    let place = c.item_mut.result.now in
    all_at (λ p. HasFineFacts regs p.facts) places now.label place c.requires.own
    (next-place regs places c.args.table.now now.label now.places place c.requires.count now.invariant c.item_mut.ensures.value)

pub loop-label-preserved : goal.loop-label-preserved
loop-label-preserved c =
    let now = c.loop-label in
    next-step c.args.regs c.args.places.now c.args.table.now now.label now.places c.item_mut.result.now c.fold_place.new.place c.index-table-label.result
    c.requires.count now.invariant c.loop-label-test.true c.item_mut.ensures.value c.index-table-label.is c.in_ok-fold_place.ensures
