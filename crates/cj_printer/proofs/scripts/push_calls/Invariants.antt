use Rattle.std.proofs.Common.{◌≡◌, ◌++◌, drop}
use Rattle.std.specs.Prelude.{flat_map}
use Rattle.cj_printer.specs.Pieces.{pieces_text}
use Rattle.cj_printer.specs.Canonical.{call_pieces}
use Rattle.cj_printer.proofs.scripts.push_calls.Given as goal

abbrev pub invariant-loop-call : goal.invariant-loop-call
invariant-loop-call l =
    l.text.items ++ pieces_text (flat_map (call_pieces l.functions) (drop l.call-index l.calls))
    ≡ l.fn.text.items ++ pieces_text (flat_map (call_pieces l.functions) l.fn.calls)
