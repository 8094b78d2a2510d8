-- What is left of a text's tokens.
use Rattle.std.specs.Prelude.{ℕ, cond, List, [], map}
use Rattle.cj_tokens.specs.Lexemes.{Lexeme}
use Rattle.cj_tokens.specs.Scan.{Item, items_from, lexeme_in}
use Rattle.cj_tokens.specs.Seen.{placed}
use Rattle.cj_tokens.specs.declared.tokens.Tokens.{Tokens}

-- the next token and those behind it; the last is the end, and is never passed
unfoldable pub stream : Tokens → List Item
stream t = items_from t.bytes.now (placed t.ahead)

-- the tokens that are not taken yet: none once the end is taken
unfoldable pub left : Tokens → List Lexeme
left t = cond t.is_past_end [] (map lexeme_in (stream t))

-- the text that they are tokens of
unfoldable pub source : Tokens → List ℕ
source t = t.bytes.now
