-- Texts that are the canonical ones of what they are read as.
use Rattle.std.specs.Prelude.{◌≡◌, ℕ, List, [], ◌∷◌, ◌++◌, true, Ok}
use Rattle.cj_ir.specs.declared.language.Program.{Program}
use Rattle.cj_ir.specs.declared.script.Input.{Input}
use Rattle.cj_tokens.specs.Lexemes.{Lexeme, is_terminal}
use Rattle.cj_tokens.specs.Scan.{lexemes_of}
use Rattle.cj_tokens.specs.declared.terminal.Terminal.TheVariants.{End}
use Rattle.cj_grammar.specs.Grammar.{Tree, leaves}
use Rattle.cj_grammar.specs.Rules.{funs}
use Rattle.cj_reader.specs.Meaning.{program_offences, program_of}
use Rattle.cj_printer.specs.Canonical.{input_text}
use Rattle.cj_text.specs.Reads.{Reads}

-- the tokens of the bytes are functions and the end; they have no offence, and mean this program
pub record SpellsProgram (bytes : List ℕ) (value : Program) : Type 0 where
  pub tree : Tree funs
  pub last : Lexeme
  pub tokens : leaves funs tree ++ last ∷ [] ≡ lexemes_of bytes
  pub is_end : is_terminal End last ≡ true
  pub fine : program_offences tree ≡ []
  pub meaning : value ≡ program_of tree

-- the bytes are the canonical text of an input, and are read as it
pub record IsCanonical (bytes : List ℕ) : Type 0 where
  pub input : Input
  pub text : bytes ≡ input_text input
  pub reads : Reads bytes (Ok input)

-- the bytes are an input, of which the text is the canonical one, and is read as the same
pub record IsCanonicalOf (bytes text : List ℕ) : Type 0 where
  pub input : Input
  pub reads : Reads bytes (Ok input)
  pub printed : text ≡ input_text input
  pub again : Reads text (Ok input)
