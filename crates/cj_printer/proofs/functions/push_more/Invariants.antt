use Rattle.std.proofs.Common.{◌≡◌, ◌++◌, drop}
use Rattle.std.specs.Prelude.{flat_map}
use Rattle.cj_printer.specs.Pieces.{pieces_text}
use Rattle.cj_printer.specs.Canonical.{more_pieces}
use Rattle.cj_printer.proofs.functions.push_more.Given as goal

abbrev pub invariant-loop-function : goal.invariant-loop-function
invariant-loop-function l =
    l.text.items ++ pieces_text (flat_map (more_pieces l.functions) (drop l.function-index l.more))
    ≡ l.fn.text.items ++ pieces_text (flat_map (more_pieces l.functions) l.fn.more)
