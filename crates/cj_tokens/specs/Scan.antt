-- The tokens of the bytes of a text.
use Rattle.std.specs.Prelude.{◌≡◌, ℕ, zero, suc, ◌+◌, ◌-◌, min, Bool, cond, not, ◌||◌, ◌&&◌, List, [], ◌∷◌, map, take, drop, length}
use Rattle.std.specs.Char.{is_ascii_digit}
use Rattle.std.specs.List.{prefix_len}
use Rattle.cj_ir.specs.Texts.{is_letter, is_letter_or_digit, is_text_byte}
use Rattle.cj_tokens.specs.Bytes.{is_blank, is_line_feed, is_hash, is_minus, is_greater, is_quote, is_in_line, begins, is_closed}
use Rattle.cj_tokens.specs.Lexemes.{Lexeme, is_terminal}
use Rattle.cj_tokens.specs.Spellings.{begins_number, lexeme_of}
use Rattle.cj_tokens.specs.declared.terminal.Terminal.TheVariants.{End}

-- How many bytes the token has that stands at the front of the bytes.
unfoldable pub size_of : List ℕ → ℕ
size_of [] = 0
size_of (b ∷ bs) =
    cond (is_letter b) (suc (prefix_len is_letter_or_digit bs))
    (cond (begins_number b bs) (suc (prefix_len is_ascii_digit bs))
    (cond (is_minus b && begins is_greater bs) 2
    (cond (is_quote b && is_closed bs) (suc (suc (prefix_len is_text_byte bs)))
    1)))

-- a token, the place of its first byte, and the place behind its last one
pub record Item : Type 0 where
  pub lexeme : Lexeme
  pub start : ℕ
  pub stop : ℕ

abbrev pub item_of : ℕ → ℕ → List ℕ → ℕ → Item
item_of line at bytes size = record { lexeme = lexeme_of line (take size bytes); start = at; stop = at + size }

-- a count of lines goes no higher than its type
abbrev pub next_line : ℕ → ℕ
next_line line = min (line + 1) 4294967295

-- neither a blank nor a comment
abbrev pub is_start : ℕ → Bool
is_start b = not (is_line_feed b || (is_blank b || is_hash b))

-- The tokens of the bytes, which begin at a place and in a line, where so many of the bytes are passed over.
unfoldable pub items : ℕ → ℕ → ℕ → List ℕ → List Item
items skip line at [] = item_of line at [] 0 ∷ []
items (suc skip) line at (b ∷ bs) = items skip line (at + 1) bs
items zero line at (b ∷ bs) =
    cond (is_line_feed b) (items 0 (next_line line) (at + 1) bs)
    (cond (is_blank b) (items 0 line (at + 1) bs)
    (cond (is_hash b) (items (prefix_len is_in_line bs) line (at + 1) bs)
    (item_of line at (b ∷ bs) (size_of (b ∷ bs)) ∷ items (size_of (b ∷ bs) - 1) line (at + 1) bs)))

-- a token of the bytes, and those behind it; behind the end there is none
unfoldable pub items_from : List ℕ → Item → List Item
items_from bytes t = t ∷ cond (is_terminal End t.lexeme) [] (items 0 t.lexeme.line t.stop (drop t.stop bytes))

-- the tokens of a text with their places, the end last
abbrev pub items_of : List ℕ → List Item
items_of bytes = items 0 1 0 bytes

-- the last tokens of a text, so many of them
abbrev pub last_items : ℕ → List ℕ → List Item
last_items count bytes = drop (length (items_of bytes) - count) (items_of bytes)

-- It is a token of the text: with those behind it, it ends the tokens of the text.
abbrev pub IsToken : List ℕ → Item → Type 0
IsToken bytes t = items_from bytes t ≡ last_items (length (items_from bytes t)) bytes

abbrev pub lexeme_in : Item → Lexeme
lexeme_in item = item.lexeme

-- the tokens of a text, the end last
abbrev pub lexemes_of : List ℕ → List Lexeme
lexemes_of bytes = map lexeme_in (items_of bytes)
