-- The next token, and passing it.
use Rattle.std.specs.Prelude.{pos, cond, List, [], ◌∷◌, Result, Ok, Err}
use Rattle.cj_tokens.specs.Lexemes.{Lexeme, Sign, fits}
use Rattle.cj_tokens.specs.declared.terminal.Terminal.TheVariants.{End}

-- The next token. Behind the last one, which is the end, stands an end of no line.
unfoldable pub front : List Lexeme → Lexeme
front [] = record { terminal = End; line = 0; text = []; number = pos 0 }
front (t ∷ ts) = t

unfoldable pub behind : List Lexeme → List Lexeme
behind [] = []
behind (t ∷ ts) = ts

-- What is left behind the next token, where it fits; where it doesn't, or there is none, everything is.
abbrev pub pass : Sign → List Lexeme → Result (List Lexeme) (List Lexeme)
pass s [] = Err []
pass s (t ∷ ts) = cond (fits s t) (Ok ts) (Err (t ∷ ts))

-- what was answered, and what is left then
abbrev pub ended : {X E : Type 0} → Result X E → List Lexeme → Result (List Lexeme) (List Lexeme)
ended (Ok x) ts = Ok ts
ended (Err e) ts = Err ts
