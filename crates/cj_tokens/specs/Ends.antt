-- The end stands last, and nowhere else.
use Rattle.std.specs.Prelude.{◌≡◌, true, not, List, [], ◌∷◌, ◌++◌}
use Rattle.std.specs.List.{list_all}
use Rattle.cj_tokens.specs.Lexemes.{Lexeme, is_terminal}
use Rattle.cj_tokens.specs.declared.terminal.Terminal.TheVariants.{End}

pub record HasOneEnd (ts : List Lexeme) : Type 0 where
  pub body : List Lexeme
  pub last : Lexeme
  pub all : ts ≡ body ++ last ∷ []
  pub is_end : is_terminal End last ≡ true
  pub once : list_all (λ t. not (is_terminal End t)) body ≡ true
