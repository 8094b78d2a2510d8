use Rattle.std.proofs.Common.{◌≡◌, ℕ, ◌+◌, List, ◌++◌, drop, ◌∙◌, sym, subst, length, ◌≤◌, append-nil}
use Rattle.std.proofs.lemmas.List.{drop_more}
use Rattle.std.proofs.Math.ListN.{drop_of_length-le}
use Rattle.cj_draft.specs.declared.passes.Skipped.{Skipped}
use Rattle.cj_passes.specs.Pipeline.{reasons, numbered}
use Rattle.cj_passes.proofs.Steps.{one_skip_more}
use Rattle.cj_passes.proofs.skips.push_all.Goals as goal

pub loop-skip-preserved : goal.loop-skip-preserved
loop-skip-preserved c =
    let xs = c.items-skip-items.result.now in
    let i = c.loop-skip.skip-index in
    let n = c.args.number in
    let all = c.args.skips.now ++ numbered n (reasons c.args.skipped.now) in
    let so_far = subst (λ (ys : List (ℕ × Skipped)). c.loop-skip.skips ++ numbered n (reasons (drop i ys)) ≡ all)
    (sym c.items-skip-items.ensures) c.loop-skip.invariant in
    subst (λ (ys : List (ℕ × Skipped)). c.push_reason.new.skips ++ numbered n (reasons (drop (i + 1) ys)) ≡ all) c.items-skip-items.ensures
    (one_skip_more all c.loop-skip.skips c.push_reason.new.skips (drop (i + 1) xs) n _ c.in_ok-push_reason.ensures
    (subst (λ (ys : List (ℕ × Skipped)). c.loop-skip.skips ++ numbered n (reasons ys) ≡ all) (drop_more xs i _ c.loop-skip-test.true) so_far))

pub returns : goal.returns
unfolding reasons numbered
returns c =
    let n = c.args.number in
    let all = c.args.skips.now ++ numbered n (reasons c.args.skipped.now) in
    let none = drop_of_length-le c.args.skipped.now
    (subst (λ (ys : List (ℕ × Skipped)). length ys ≤ c.loop-skip.skip-index) c.items-skip-items.ensures c.loop-skip-test.false) in
    let done = subst (λ (ys : List (ℕ × Skipped)). c.loop-skip.skips ++ numbered n (reasons ys) ≡ all) none c.loop-skip.invariant in
    sym (append-nil c.loop-skip.skips) ∙ done
