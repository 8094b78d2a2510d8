use Rattle.std.proofs.Common.{◌≡◌, ◌++◌, drop}
use Rattle.std.specs.Prelude.{flat_map}
use Rattle.cj_printer.specs.Pieces.{pieces_text, after_comma}
use Rattle.cj_printer.proofs.names.push_more_names.Given as goal

abbrev pub invariant-loop-name : goal.invariant-loop-name
invariant-loop-name l =
    l.text.items ++ pieces_text (flat_map after_comma (drop l.name-index l.names))
    ≡ l.fn.text.items ++ pieces_text (flat_map after_comma l.fn.names)
