use Rattle.std.proofs.Common.{◌≡◌, ◌∙◌, ◌<◌, length, sym, ap, Some, None, arith}
use Rattle.std.specs.Prelude.{slice_index_or}
use Rattle.std.specs.Option.{option_map}
use Rattle.cj_draft.specs.WellNamed.{IsPlaceFine}
use Rattle.cj_draft.specs.Arrives.{place_at}
use Rattle.cj_ir.proofs.ListReads.{all_at}
use Rattle.cj_draft.proofs.EdgeLemmas.{successor_within}
use Rattle.cj_const.specs.Knowledge.{known}
use Rattle.cj_const.proofs.SearchCalls.{read-at, place-read, arrival-wide, passed-unreached, passed-nothing}
use Rattle.cj_const.proofs.SearchSteps.{row-arrived, arrived-work}
use Rattle.cj_const.proofs.search.Search.pass.Goals as goal

pub returns-in_default-clause-passed : goal.returns-in_default-clause-passed
returns-in_default-clause-passed c =
    let draft = c.args.draft.now in
    let p = c.index-items-label.result in
    let at : place_at draft.code c.args.label
    ≡ Some p = place-read draft.code c.code.result.now c.items.result.now c.args.label p c.code.ensures.same c.items.ensures c.requires.within
    c.index-items-label.is in
    let inside : c.args.label.0 < length c.args.self.now.rows = omega (arith, c.requires.within, c.requires.begun.found.count) in
    passed-unreached draft.context draft.code c.args.self.now.rows c.args.self.now.waiting c.args.label c.args.to p at (c.requires.edge p at)
    (read-at c.args.self.now.rows c.items-2.result.now c.args.label.0 c.index-items-label-2.result None c.items-2.ensures inside c.index-items-label-2.is
    ∙ c.in_default.is)

pub returns-in_default-2-clause-passed : goal.returns-in_default-2-clause-passed
returns-in_default-2-clause-passed c =
    let draft = c.args.draft.now in
    let p = c.index-items-label.result in
    let at : place_at draft.code c.args.label
    ≡ Some p = place-read draft.code c.code.result.now c.items.result.now c.args.label p c.code.ensures.same c.items.ensures c.requires.within
    c.index-items-label.is in
    let inside : c.args.label.0 < length c.args.self.now.rows = omega (arith, c.requires.within, c.requires.begun.found.count) in
    passed-nothing draft.context draft.code c.args.self.now.rows c.args.self.now.waiting c.args.label c.args.to p at
    (c.requires.edge p at) c.in-Some.row c.in_ok-arrival.field-0
    (read-at c.args.self.now.rows c.items-2.result.now c.args.label.0 c.index-items-label-2.result None c.items-2.ensures inside c.index-items-label-2.is
    ∙ c.in-Some.is)
    c.in_ok-arrival.ensures.leaves c.in_default-2.is

pub arrive-requires-clause-within : goal.arrive-requires-clause-within
arrive-requires-clause-within c =
    let draft = c.args.draft.now in
    let p = c.index-items-label.result in
    let at : place_at draft.code c.args.label
    ≡ Some p = place-read draft.code c.code.result.now c.items.result.now c.args.label p c.code.ensures.same c.items.ensures c.requires.within
    c.index-items-label.is in
    let fine = all_at (IsPlaceFine draft.program draft.code.regs (length draft.code.places)) draft.code.places c.args.label.0 p
    c.code.ensures.sound.named.places at in
    let inside = successor_within draft.program draft.code.regs (length draft.code.places) p.instr c.args.to fine.instr (c.requires.edge p at) in
    omega (arith, inside, c.requires.begun.found.count)

pub arrive-requires-clause-waiting : goal.arrive-requires-clause-waiting
arrive-requires-clause-waiting c =
    let draft = c.args.draft.now in
    let p = c.index-items-label.result in
    let at : place_at draft.code c.args.label
    ≡ Some p = place-read draft.code c.code.result.now c.items.result.now c.args.label p c.code.ensures.same c.items.ensures c.requires.within
    c.index-items-label.is in
    let fine = all_at (IsPlaceFine draft.program draft.code.regs (length draft.code.places)) draft.code.places c.args.label.0 p
    c.code.ensures.sound.named.places at in
    let inside = successor_within draft.program draft.code.regs (length draft.code.places) p.instr c.args.to fine.instr (c.requires.edge p at) in
    omega (arith, inside, c.requires.begun.waiting.labels)

pub returns-clause-work : goal.returns-clause-work
returns-clause-work c =
    let draft = c.args.draft.now in
    let rows = c.args.self.now.rows in
    let arrival = c.in-Some-2.arrival in
    let p = c.index-items-label.result in
    let at : place_at draft.code c.args.label
    ≡ Some p = place-read draft.code c.code.result.now c.items.result.now c.args.label p c.code.ensures.same c.items.ensures c.requires.within
    c.index-items-label.is in
    let fine = all_at (IsPlaceFine draft.program draft.code.regs (length draft.code.places)) draft.code.places c.args.label.0 p
    c.code.ensures.sound.named.places at in
    let next = successor_within draft.program draft.code.regs (length draft.code.places) p.instr c.args.to fine.instr (c.requires.edge p at) in
    let inside : c.args.label.0 < length rows = omega (arith, c.requires.within, c.requires.begun.found.count) in
    let there : c.args.to.0 < length rows = omega (arith, next, c.requires.begun.found.count) in
    let row : slice_index_or rows c.args.label.0 None
    ≡ Some c.in-Some.row = read-at rows c.items-2.result.now c.args.label.0 c.index-items-label-2.result None c.items-2.ensures inside
    c.index-items-label-2.is ∙ c.in-Some.is in
    let width = arrival-wide draft.code.regs rows c.args.label.0 c.in-Some.row c.in_ok-arrival.field-0 arrival c.requires.begun.found.widths inside row
    c.in_ok-arrival.ensures.width c.in-Some-2.is in
    arrived-work draft.code.regs rows c.arrive.new.self.rows c.args.self.now.waiting c.arrive.new.self.waiting c.args.to arrival c.requires.begun.found.widths
    there width c.in_ok-arrive.ensures

pub returns-clause-passed : goal.returns-clause-passed
returns-clause-passed c = λ left s.
    let draft = c.args.draft.now in
    let rows = c.args.self.now.rows in
    let arrival = c.in-Some-2.arrival in
    let p = c.index-items-label.result in
    let at : place_at draft.code c.args.label
    ≡ Some p = place-read draft.code c.code.result.now c.items.result.now c.args.label p c.code.ensures.same c.items.ensures c.requires.within
    c.index-items-label.is in
    let fine = all_at (IsPlaceFine draft.program draft.code.regs (length draft.code.places)) draft.code.places c.args.label.0 p
    c.code.ensures.sound.named.places at in
    let next = successor_within draft.program draft.code.regs (length draft.code.places) p.instr c.args.to fine.instr (c.requires.edge p at) in
    let inside : c.args.label.0 < length rows = omega (arith, c.requires.within, c.requires.begun.found.count) in
    let there : c.args.to.0 < length rows = omega (arith, next, c.requires.begun.found.count) in
    let row : slice_index_or rows c.args.label.0 None
    ≡ Some c.in-Some.row = read-at rows c.items-2.result.now c.args.label.0 c.index-items-label-2.result None c.items-2.ensures inside
    c.index-items-label-2.is ∙ c.in-Some.is in
    let width = arrival-wide draft.code.regs rows c.args.label.0 c.in-Some.row c.in_ok-arrival.field-0 arrival c.requires.begun.found.widths inside row
    c.in_ok-arrival.ensures.width c.in-Some-2.is in
    row-arrived draft.context draft.code rows c.arrive.new.self.rows c.args.self.now.waiting c.arrive.new.self.waiting c.args.label c.args.to left p at
    (c.requires.edge p at) s
    (known c.in-Some.row) (ap (option_map known) row) arrival (sym c.in_ok-arrival.ensures.leaves ∙ ap (option_map known) c.in-Some-2.is) there width
    c.in_ok-arrive.ensures
