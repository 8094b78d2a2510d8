use Rattle.std.proofs.Common.{◌≡◌, ◌++◌, drop, map}
use Rattle.cj_printer.specs.Pieces.{pieces_text}
use Rattle.cj_printer.specs.Canonical.{value_piece}
use Rattle.cj_printer.proofs.scripts.push_values.Given as goal

abbrev pub invariant-loop-value : goal.invariant-loop-value
invariant-loop-value l =
    l.text.items ++ pieces_text (map value_piece (drop l.value-index l.values))
    ≡ l.fn.text.items ++ pieces_text (map value_piece l.fn.values)
