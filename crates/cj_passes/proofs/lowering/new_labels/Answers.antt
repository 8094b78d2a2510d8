use Rattle.std.proofs.Common.{◌<◌, ◌+◌, ◌∙◌, Bool, false, length, sym, ap, subst, arith}
use Rattle.std.proofs.lemmas.List.Sums.{count_by_more_yes, count_by_more_no}
use Rattle.cj_passes.specs.Lowering.{renumbered}
use Rattle.cj_rows.specs.Tables.{IsTable}
use Rattle.cj_rows.proofs.Tables.{numbered}
use Rattle.cj_passes.proofs.Numbers.{numbers_more}
use Rattle.cj_passes.proofs.lowering.new_labels.Goals as goal
use Rattle.cj_passes.proofs.lowering.new_labels.Goals.{then-keeps, else-keeps}

pub loop-keeps-preserved : goal.loop-keeps-preserved
unfolding numbered
loop-keeps-preserved c =
    let kept = c.args.kept.now in
    let n = c.loop-keeps.keeps-index in
    let inside : n < length kept = omega arith in
    let is = λ (k : Bool). k in
    record {
      number = elim c.if-keeps.branch [
        | then-keeps w ↦ w.number-is ∙ ap (λ k. k + 1) c.loop-keeps.invariant.number ∙ sym (count_by_more_yes is kept n false inside w.if-keeps.true)
        | else-keeps w ↦ w.number-is ∙ c.loop-keeps.invariant.number ∙ sym (count_by_more_no is kept n false inside w.if-keeps.false)
      ];
      labels = subst (IsTable (renumbered kept) (n + 1)) (sym c.in_ok-push.ensures.ok)
          (numbers_more kept n c.loop-keeps.number c.loop-keeps.labels c.loop-keeps.invariant.labels c.loop-keeps.invariant.number);
    }
