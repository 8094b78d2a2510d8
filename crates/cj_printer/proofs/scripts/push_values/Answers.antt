use Rattle.std.proofs.Common.{◌≡◌, ◌++◌, length, get_or, ◌≤◌, pos, arith, rules}
use Rattle.cj_printer.specs.Pieces.{piece_text}
use Rattle.cj_printer.specs.Canonical.{value_piece}
use Rattle.cj_printer.proofs.Loops.{turn_each, done_each}
use Rattle.cj_printer.proofs.scripts.push_values.Goals as goal

pub loop-value-preserved : goal.loop-value-preserved
loop-value-preserved c =
    let step : c.push_value.new.text.items ≡ c.loop-value.text.items
    ++ piece_text (value_piece (get_or c.args.values.now c.loop-value.value-index (pos 0))) = search rules in
    turn_each value_piece c.loop-value.text.items c.push_value.new.text.items _ c.args.values.now c.loop-value.value-index
    (pos 0) c.loop-value-test.true c.loop-value.invariant step

pub returns : goal.returns
returns c =
    let past : length c.args.values.now ≤ c.loop-value.value-index = omega arith in
    done_each value_piece c.loop-value.text.items _ c.args.values.now c.loop-value.value-index past c.loop-value.invariant
