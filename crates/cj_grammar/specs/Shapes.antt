-- Functions in front of other tokens.
use Rattle.std.specs.Prelude.{◌≡◌, false, List, ◌++◌}
use Rattle.cj_tokens.specs.Lexemes.{Lexeme, is_terminal}
use Rattle.cj_tokens.specs.Passing.{front}
use Rattle.cj_tokens.specs.declared.terminal.Terminal.TheVariants.{Fun}
use Rattle.cj_grammar.specs.Grammar.{Tree, leaves}
use Rattle.cj_grammar.specs.Rules.{funs}

-- Functions stand in front of what is left, and no further one begins there.
pub record GoesPast (old new : List Lexeme) : Type 0 where
  pub tree : Tree funs
  pub all : leaves funs tree ++ new ≡ old
  pub no_more : is_terminal Fun (front new) ≡ false

abbrev pub HasFunctions : List Lexeme → Type 0
HasFunctions ts = (left : List Lexeme) × GoesPast ts left
