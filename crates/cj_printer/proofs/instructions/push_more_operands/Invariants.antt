use Rattle.std.proofs.Common.{◌≡◌, ◌++◌, drop, map}
use Rattle.std.specs.Prelude.{flat_map}
use Rattle.cj_printer.specs.Pieces.{pieces_text, after_comma}
use Rattle.cj_printer.specs.Canonical.{operand_text}
use Rattle.cj_printer.proofs.instructions.push_more_operands.Given as goal

abbrev pub invariant-loop-arg : goal.invariant-loop-arg
invariant-loop-arg l =
    l.text.items ++ pieces_text (flat_map after_comma (map (operand_text l.function) (drop l.arg-index l.args)))
    ≡ l.fn.text.items ++ pieces_text (flat_map after_comma (map (operand_text l.function) l.fn.args))
