-- One token ahead decides the grammars.
use Rattle.std.specs.Prelude.{◌≡◌, true, []}
use Rattle.cj_grammar.specs.OneAhead.{is_plain}
use Rattle.cj_grammar.specs.Rules.{input}

abbrev pub InputIsPlain : Type 0
InputIsPlain = is_plain input [] ≡ true
