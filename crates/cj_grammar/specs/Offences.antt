-- The first offence of the first class.
use Rattle.std.specs.Prelude.{◌≡◌, cond, List}
use Rattle.cj_tokens.specs.Lexemes.{Lexeme, is_terminal}
use Rattle.cj_tokens.specs.declared.refusal.Kind.{Kind}
use Rattle.cj_tokens.specs.declared.refusal.Kind.TheVariants as kinds
use Rattle.cj_tokens.specs.declared.refusal.Refused.{Refused}
use Rattle.cj_tokens.specs.declared.terminal.Terminal.TheVariants.{BadCharacter, BadNumber}
use Rattle.cj_grammar.specs.Grammar.{Rule, IsFirstBad}
use Rattle.cj_grammar.specs.Reading.{offence}

-- A token that is a lexical offence is refused as that, wherever it stands.
abbrev pub class_one : Lexeme → Kind
class_one t = cond (is_terminal BadCharacter t) kinds.Character (cond (is_terminal BadNumber t) kinds.Number kinds.Syntax)

-- The line and the kind of the first token with which the tokens so far begin no sentence.
pub record IsFirstOffence (r : Rule) (ts : List Lexeme) (refused : Refused) : Type 0 where
  pub token : Lexeme
  pub first : IsFirstBad r ts token
  pub is : refused ≡ offence token (class_one token)
