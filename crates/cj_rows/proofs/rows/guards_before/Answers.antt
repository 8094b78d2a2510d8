use Rattle.std.proofs.Common.{◌≡◌, ◌≤◌, ◌∙◌, ℕ, Option, length, refl, ap, arith}
use Rattle.std.specs.Prelude.{unwrap_or}
use Rattle.cj_ir.specs.declared.language.Label.{Label}
use Rattle.cj_rows.specs.Rows.{steps_to, or_none, greatest, guards_before}
use Rattle.cj_rows.proofs.GuardRows.{greatest_more, steps_few, or_none-unwrap}
use Rattle.cj_rows.proofs.rows.guards_before.Goals as goal

pub loop-from-init : goal.loop-from-init
unfolding greatest
loop-from-init c = record { most = refl; few = omega arith }

pub loop-from-preserved : goal.loop-from-preserved
loop-from-preserved c =
    let code = c.args.code.now in
    let label = c.args.label in
    let n = c.loop-from.from in
    let from : Label = record { 0 = n } in
    let f = λ (x : Label). or_none (steps_to code label 8 x) in
    let few : f from ≤ 8 = steps_few code label 8 from in
    let steps : c.unwrap_or-steps.result ≡ f from = c.unwrap_or-steps.ensures ∙ ap (λ (o : Option ℕ). unwrap_or o 0) c.steps_to.ensures
    ∙ or_none-unwrap (steps_to code label 8 from) in
    record {
      most = greatest_more f n c.loop-from.most c.unwrap_or-steps.result c.greater-most.result from c.loop-from.invariant.most refl steps
          c.greater-most.ensures;
      few = omega (arith, c.greater-most.ensures, steps);
    }

pub returns-clause-count : goal.returns-clause-count
unfolding guards_before
returns-clause-count c =
    let all : c.loop-from.from ≡ length c.args.code.now.places = omega (arith, ap length c.items-from-end.ensures) in
    c.loop-from.invariant.most ∙ ap (greatest (λ (x : Label). or_none (steps_to c.args.code.now c.args.label 8 x))) all
