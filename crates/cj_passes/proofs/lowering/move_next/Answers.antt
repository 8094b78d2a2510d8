use Rattle.std.proofs.Common.{◌∙◌, [], ◌∷◌, ◌++◌, drop, reverse, sym, ap}
use Rattle.cj_rows.specs.Edges.{led_place}
use Rattle.cj_rows.specs.Tables.{given}
use Rattle.cj_rows.proofs.Reversing.{popped, popped_none}
use Rattle.cj_passes.proofs.Keeping.{kept_one, kept_not, kept_end}
use Rattle.cj_passes.proofs.lowering.move_next.Goals as goal

pub returns-in_default-clause-made : goal.returns-in_default-clause-made
returns-in_default-clause-made c =
    sym (kept_end (led_place (given c.args.table.now)) c.args.made.now c.args.keeps (reverse c.args.rest.now)
    (popped_none c.args.rest.now c.pop.result c.pop.ensures.item c.in_default.is))

pub returns-in_err-push-clause-rest : goal.returns-in_err-push-clause-rest
returns-in_err-push-clause-rest c =
    sym (ap (drop 1) (popped c.args.rest.now c.pop.new.self c.pop.result c.in-Some.place c.pop.ensures.item c.in-Some.is c.pop.ensures.rest))

pub returns-in_ok-push-clause-rest : goal.returns-in_ok-push-clause-rest
returns-in_ok-push-clause-rest c =
    sym (ap (drop 1) (popped c.args.rest.now c.pop.new.self c.pop.result c.in-Some.place c.pop.ensures.item c.in-Some.is c.pop.ensures.rest))

pub returns-in_ok-push-clause-made : goal.returns-in_ok-push-clause-made
returns-in_ok-push-clause-made c =
    let first = popped c.args.rest.now c.pop.new.self c.pop.result c.in-Some.place c.pop.ensures.item c.in-Some.is c.pop.ensures.rest in
    c.in_ok-push.ensures.ok ∙ ap (λ p. c.args.made.now ++ p ∷ []) c.led_place.ensures
    ∙ sym (kept_one (led_place (given c.args.table.now)) c.args.made.now c.args.keeps (reverse c.args.rest.now) c.in-Some.place
    (reverse c.pop.new.self) first c.if-keeps.true)

pub returns-else-keeps-clause-rest : goal.returns-else-keeps-clause-rest
returns-else-keeps-clause-rest c =
    sym (ap (drop 1) (popped c.args.rest.now c.pop.new.self c.pop.result c.in-Some.place c.pop.ensures.item c.in-Some.is c.pop.ensures.rest))

pub returns-else-keeps-clause-made : goal.returns-else-keeps-clause-made
returns-else-keeps-clause-made c =
    let first = popped c.args.rest.now c.pop.new.self c.pop.result c.in-Some.place c.pop.ensures.item c.in-Some.is c.pop.ensures.rest in
    sym (kept_not (led_place (given c.args.table.now)) c.args.made.now c.args.keeps (reverse c.args.rest.now) c.in-Some.place
    (reverse c.pop.new.self) first c.if-keeps.false)
