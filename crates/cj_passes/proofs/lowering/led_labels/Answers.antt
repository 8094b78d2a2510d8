use Rattle.std.proofs.Common.{◌<◌, ◌+◌, ◌∙◌, List, [], ◌∷◌, ◌++◌, length, get_or, sym, ap, subst, arith}
use Rattle.cj_ir.specs.declared.language.Label.{Label}
use Rattle.cj_passes.specs.Lowering.{led}
use Rattle.cj_rows.specs.Tables.{IsTable}
use Rattle.cj_passes.proofs.Passing.{passed_within}
use Rattle.cj_rows.proofs.Tables.{numbered}
use Rattle.cj_passes.proofs.Numbers.{led_labels_more}
use Rattle.cj_passes.proofs.lowering.led_labels.Goals as goal

pub bounds-items-to : goal.bounds-items-to
unfolding numbered
bounds-items-to c =
    let code = c.args.code.now in
    let inside : c.loop-label.label < length code.places = omega (arith, ap length c.items-label-end.ensures) in
    omega (
      arith,
      passed_within code (numbered c.loop-label.label) c.requires.closed inside,
      ap (λ (x : Label). x.0) c.passed-to.ensures,
      ap length
          c.items.ensures,
      c.in_ok-renumbered.ensures.count,
      c.requires.marks,
    )

pub loop-label-preserved : goal.loop-label-preserved
unfolding numbered
loop-label-preserved c =
    let code = c.args.code.now in
    let kept = c.args.kept.now in
    let n = c.loop-label.label in
    let to = c.passed-to.result in
    let numbers = c.in_ok-renumbered.renumbered in
    let zero_label : Label = record { 0 = 0 } in
    let inside : n < length code.places = omega (arith, ap length c.items-label-end.ensures) in
    let to_inside : to.0
    < length kept = omega (arith, passed_within code (numbered n) c.requires.closed inside, ap (λ (x : Label). x.0) c.passed-to.ensures, c.requires.marks)
    in
    let more = led_labels_more code kept numbers c.loop-label.labels (length kept) n to zero_label c.in_ok-renumbered.ensures c.passed-to.ensures to_inside
    c.loop-label.invariant in
    let read = ap (λ (xs : List Label). get_or xs to.0 zero_label) c.items.ensures in
    subst (IsTable (led code kept) (n + 1)) (sym (c.in_ok-push.ensures.ok ∙ ap (λ (y : Label). c.loop-label.labels ++ y ∷ []) read)) more
