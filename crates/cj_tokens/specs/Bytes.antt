-- The classes of bytes that tokens are made of.
use Rattle.std.specs.Prelude.{ℕ, Bool, false, not, ◌||◌, List, [], ◌∷◌, ◌==◌, drop}
use Rattle.std.specs.List.{prefix_len}
use Rattle.cj_ir.specs.Texts.{is_text_byte}

-- space, tab, carriage return; the line feed is a blank too, and ends a line
abbrev pub is_blank : ℕ → Bool
is_blank b = b == 32 || (b == 9 || b == 13)

abbrev pub is_line_feed : ℕ → Bool
is_line_feed b = b == 10

-- `#`
abbrev pub is_hash : ℕ → Bool
is_hash b = b == 35

abbrev pub is_minus : ℕ → Bool
is_minus b = b == 45

-- `>`
abbrev pub is_greater : ℕ → Bool
is_greater b = b == 62

-- `"`
abbrev pub is_quote : ℕ → Bool
is_quote b = b == 34

-- what a comment passes over
abbrev pub is_in_line : ℕ → Bool
is_in_line b = not (is_line_feed b)

-- the first byte is such a one
abbrev pub begins : (ℕ → Bool) → List ℕ → Bool
begins p [] = false
begins p (b ∷ bs) = p b

-- the bytes behind an opening quote go on to the closing one
abbrev pub is_closed : List ℕ → Bool
is_closed bs = begins is_quote (drop (prefix_len is_text_byte bs) bs)
