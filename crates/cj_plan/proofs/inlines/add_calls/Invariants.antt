use Rattle.std.proofs.Common.{◌≡◌, ◌++◌, map, take}
use Rattle.cj_draft.specs.declared.passes.Pass.TheVariants.{Inline}
use Rattle.cj_plan.proofs.inlines.add_calls.Given as goal

abbrev pub invariant-loop-call : goal.invariant-loop-call
invariant-loop-call l = l.passes ≡ l.fn.passes ++ map (λ call. Inline call) (take l.call-index l.calls)
