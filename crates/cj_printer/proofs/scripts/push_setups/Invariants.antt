use Rattle.std.proofs.Common.{◌≡◌, ◌++◌, drop}
use Rattle.std.specs.Prelude.{flat_map}
use Rattle.cj_printer.specs.Pieces.{pieces_text}
use Rattle.cj_printer.specs.Canonical.{setup_pieces}
use Rattle.cj_printer.proofs.scripts.push_setups.Given as goal

abbrev pub invariant-loop-setup : goal.invariant-loop-setup
invariant-loop-setup l =
    l.text.items ++ pieces_text (flat_map (setup_pieces l.functions) (drop l.setup-index l.setups))
    ≡ l.fn.text.items ++ pieces_text (flat_map (setup_pieces l.functions) l.fn.setups)
