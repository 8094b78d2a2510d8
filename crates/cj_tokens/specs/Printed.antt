-- The bytes of the tokens that are always spelled alike, and what a text of such tokens is read as.
use Rattle.std.specs.Prelude.{ℕ, pos, Bool, true, not, ◌||◌, ◌&&◌, nat_le, cond, ◌-◌, List, [], map, codes, get_or}
use Rattle.std.specs.Char.{is_ascii_digit}
use Rattle.cj_ir.specs.Texts.{keywords}
use Rattle.cj_tokens.specs.Bytes.{is_greater, begins}
use Rattle.cj_tokens.specs.Lexemes.{Lexeme, number_of}
use Rattle.cj_tokens.specs.Scan.{items, lexeme_in}
use Rattle.cj_tokens.specs.declared.terminal.Terminal.{Terminal}
use Rattle.cj_tokens.specs.declared.terminal.Terminal.TheVariants.{OpenParen, CloseParen, OpenBrace, CloseBrace, OpenBracket, CloseBracket, Comma, Semicolon}
use Rattle.cj_tokens.specs.declared.terminal.Terminal.TheVariants.{Colon, Equals, Plus, Minus, Star, Slash, Percent, Less, Arrow}

-- the keyword of a terminal, by its number; no other has one
abbrev pub keyword_of : ℕ → List ℕ
keyword_of n = cond (nat_le 6 n) (get_or keywords (n - 6) []) []

-- the bytes of a keyword or a mark
abbrev pub spelling : Terminal → List ℕ
spelling OpenParen = codes "("
spelling CloseParen = codes ")"
spelling OpenBrace = codes "{"
spelling CloseBrace = codes "}"
spelling OpenBracket = codes "["
spelling CloseBracket = codes "]"
spelling Comma = codes ","
spelling Semicolon = codes ";"
spelling Colon = codes ":"
spelling Equals = codes "="
spelling Plus = codes "+"
spelling Minus = codes "-"
spelling Star = codes "*"
spelling Slash = codes "/"
spelling Percent = codes "%"
spelling Less = codes "<"
spelling Arrow = codes "->"
spelling k = keyword_of (number_of k)

abbrev pub is_keyword_terminal : Terminal → Bool
is_keyword_terminal k = nat_le 6 (number_of k) && nat_le (number_of k) 37

abbrev pub is_mark_terminal : Terminal → Bool
is_mark_terminal k = nat_le 38 (number_of k) && nat_le (number_of k) 54

-- its token in a line
abbrev pub fixed : Terminal → ℕ → Lexeme
fixed k line = record { terminal = k; line = line; text = spelling k; number = pos 0 }

-- the bytes do not go on with what would make `-` another token
abbrev pub ends_mark : Terminal → List ℕ → Bool
ends_mark Minus rest = not (begins is_ascii_digit rest || begins is_greater rest)
ends_mark _ rest = true

-- the tokens of bytes that begin in a line
abbrev pub lexed : ℕ → List ℕ → List Lexeme
lexed line bytes = map lexeme_in (items 0 line 0 bytes)
