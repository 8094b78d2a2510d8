use Rattle.std.proofs.Common.{◌∙◌, ◌+◌, Some, sym, ap, arith}
use Rattle.cj_draft.specs.declared.passes.Room.TheVariants.{Guards}
use Rattle.cj_draft.specs.declared.passes.Skipped.TheVariants.{Full}
use Rattle.cj_rows.proofs.GuardConditions.{has_few, has_many}
use Rattle.cj_rows.proofs.guards.guards_offence.Goals as goal

pub returns-then-all-le-MAX_GUARDS : goal.returns-then-all-le-MAX_GUARDS
returns-then-all-le-MAX_GUARDS c =
    sym (has_few (c.args.own + c.args.count) (omega (arith, c.saturating_add-all.ensures, c.if-all-le-MAX_GUARDS.true)))

pub returns : goal.returns
returns c =
    ap (λ n. Some (Full Guards n)) c.told.ensures
    ∙ has_many (c.args.own + c.args.count) c.saturating_add-all.result (omega (arith, c.if-all-le-MAX_GUARDS.false)) c.saturating_add-all.ensures
