use Rattle.std.proofs.Common.{◌≡◌, ◌++◌, length, get_or, ◌≤◌, pos, arith, rules, codes}
use Rattle.std.specs.Fmt.{signed_decimal}
use Rattle.cj_calls.proofs.Texts.{prints_turn, prints_end}
use Rattle.cj_calls.proofs.text.push_prints.Goals as goal

pub loop-value-preserved : goal.loop-value-preserved
loop-value-preserved c =
    let step : c.push_print.new.text.items ≡ c.loop-value.text.items
    ++ (signed_decimal (get_or c.args.printed.now c.loop-value.value-index (pos 0)) ++ codes "\n") = search rules in
    prints_turn c.loop-value.text.items c.push_print.new.text.items _ c.args.printed.now c.loop-value.value-index
    (pos 0) c.loop-value-test.true c.loop-value.invariant step

pub returns : goal.returns
returns c = let past : length c.args.printed.now
    ≤ c.loop-value.value-index = omega arith in prints_end c.loop-value.text.items _ c.args.printed.now c.loop-value.value-index past c.loop-value.invariant
