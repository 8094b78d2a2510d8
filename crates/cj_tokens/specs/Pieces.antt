-- The tokens as they are given one by one.
use Rattle.std.specs.Prelude.{cond, Bool, true, false, ℤ, List, [], ◌∷◌, Result, Ok, Err}
use Rattle.cj_tokens.specs.Lexemes.{Lexeme}
use Rattle.cj_tokens.specs.Scan.{Item}
use Rattle.cj_tokens.specs.declared.refusal.Kind.TheVariants as kinds
use Rattle.cj_tokens.specs.declared.refusal.Refused.{Refused}
use Rattle.cj_tokens.specs.declared.terminal.Terminal.{Terminal}
use Rattle.cj_tokens.specs.declared.terminal.Terminal.TheVariants.{End, BadCharacter, BadNumber, Name, Number, Text, OpenParen, CloseParen, OpenBrace}
use Rattle.cj_tokens.specs.declared.terminal.Terminal.TheVariants.{CloseBrace, OpenBracket, CloseBracket, Comma, Semicolon, Colon, Equals, Plus, Minus, Star}
use Rattle.cj_tokens.specs.declared.terminal.Terminal.TheVariants.{Slash, Percent, Less, Arrow}
use Rattle.cj_tokens.specs.declared.piece.Piece.{Piece}
use Rattle.cj_tokens.specs.declared.piece.Piece.TheVariants as pieces
use Rattle.cj_tokens.specs.declared.piece.Token.{Token}

-- what a token that is no offence is, for the value of a number
abbrev pub piece_of : Terminal → ℤ → Piece
piece_of End n = pieces.End
piece_of Name n = pieces.Name
piece_of Number n = pieces.Number n
piece_of Text n = pieces.Text
piece_of OpenParen n = pieces.Mark
piece_of CloseParen n = pieces.Mark
piece_of OpenBrace n = pieces.Mark
piece_of CloseBrace n = pieces.Mark
piece_of OpenBracket n = pieces.Mark
piece_of CloseBracket n = pieces.Mark
piece_of Comma n = pieces.Mark
piece_of Semicolon n = pieces.Mark
piece_of Colon n = pieces.Mark
piece_of Equals n = pieces.Mark
piece_of Plus n = pieces.Mark
piece_of Minus n = pieces.Mark
piece_of Star n = pieces.Mark
piece_of Slash n = pieces.Mark
piece_of Percent n = pieces.Mark
piece_of Less n = pieces.Mark
piece_of Arrow n = pieces.Mark
piece_of _ n = pieces.Keyword

-- a token, or the offence that it is
abbrev pub given_as : Terminal → Item → Result Token Refused
given_as BadCharacter t = Err (record { line = t.lexeme.line; kind = kinds.Character })
given_as BadNumber t = Err (record { line = t.lexeme.line; kind = kinds.Number })
given_as k t = Ok (record { line = t.lexeme.line; start = t.start; end = t.stop; what = piece_of k t.lexeme.number })

-- neither the end nor an offence: the next token is asked for behind it
abbrev pub is_passed : Terminal → Bool
is_passed End = false
is_passed BadCharacter = false
is_passed BadNumber = false
is_passed _ = true

-- the answer, where those tokens are left, of which the last is the end
unfoldable pub next_of : List Item → Result Token Refused
next_of [] = Ok (record { line = 0; start = 0; end = 0; what = pieces.End })
next_of (t ∷ ts) = given_as t.lexeme.terminal t

-- and what is left then: an offence and the end stay
abbrev pub past_by : {X : Type 0} → (X → Terminal) → List X → List X
past_by terminal [] = []
past_by terminal (t ∷ ts) = cond (is_passed (terminal t)) ts (t ∷ ts)

unfoldable pub past_items : List Item → List Item
past_items ts = past_by (λ t. t.lexeme.terminal) ts

unfoldable pub past_lexemes : List Lexeme → List Lexeme
past_lexemes ts = past_by (λ t. t.terminal) ts
