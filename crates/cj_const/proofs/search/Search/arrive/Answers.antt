use Rattle.std.proofs.Common.{◌∙◌, sym, ap, ap₂, List, Option, None, Some}
use Rattle.std.specs.Prelude.{ℤ, slice_set}
use Rattle.cj_const.specs.Search.{is_within, met}
use Rattle.cj_const.proofs.SearchCalls.{read-at, arrived-first, arrived-same, arrived-met}
use Rattle.cj_const.proofs.search.Search.arrive.Goals as goal

pub returns-in_default : goal.returns-in_default
returns-in_default c =
    let rows = c.args.self.now.rows in
    arrived-first rows c.change.new.self.rows c.args.self.now.waiting c.change.new.self.waiting c.args.to c.args.arrival
    (read-at rows c.items.result.now c.args.to.0 c.index-items-to.result None c.items.ensures c.requires.within c.index-items-to.is ∙ c.in_default.is)
    c.change.ensures.rows c.change.ensures.waits

pub returns-then-is_within : goal.returns-then-is_within
returns-then-is_within c =
    let rows = c.args.self.now.rows in
    arrived-same rows c.args.self.now.waiting c.args.to c.in-Some.row c.args.arrival
    (read-at rows c.items.result.now c.args.to.0 c.index-items-to.result None c.items.ensures c.requires.within c.index-items-to.is ∙ c.in-Some.is)
    (sym (ap₂ is_within c.items-2.ensures c.items-3.ensures) ∙ sym c.is_within.ensures ∙ c.if-is_within.true)

pub returns : goal.returns
returns c =
    let rows = c.args.self.now.rows in
    let row = c.in-Some.row in
    arrived-met rows c.change-2.new.self.rows c.args.self.now.waiting c.change-2.new.self.waiting c.args.to row c.args.arrival
    (read-at rows c.items.result.now c.args.to.0 c.index-items-to.result None c.items.ensures c.requires.within c.index-items-to.is ∙ c.in-Some.is)
    (sym (ap₂ is_within c.items-2.ensures c.items-3.ensures) ∙ sym c.is_within.ensures ∙ c.if-is_within.false)
    (c.change-2.ensures.rows ∙ ap (λ (r : List (Option ℤ)). slice_set rows c.args.to.0 (Some r)) (c.in_ok-row.ensures ∙ ap (met row) c.items-4.ensures))
    c.change-2.ensures.waits
