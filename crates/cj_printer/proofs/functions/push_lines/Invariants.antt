use Rattle.std.proofs.Common.{◌≡◌, ◌++◌, drop}
use Rattle.std.specs.Prelude.{flat_map}
use Rattle.cj_printer.specs.Pieces.{pieces_text}
use Rattle.cj_printer.specs.Canonical.{line_pieces}
use Rattle.cj_printer.proofs.functions.push_lines.Given as goal

abbrev pub invariant-loop-line : goal.invariant-loop-line
invariant-loop-line l =
    l.text.items ++ pieces_text (flat_map (line_pieces l.functions l.function) (drop l.line-index l.line-items))
    ≡ l.fn.text.items ++ pieces_text (flat_map (line_pieces l.functions l.function) l.function.code)
