-- What a token is, told by its bytes.
use Rattle.std.specs.Prelude.{ℕ, ℤ, pos, neg_ℤ, Bool, cond, ◌||◌, ◌&&◌, List, [], ◌∷◌, length, ◌+◌, ◌-◌, ◌*◌, take, drop, nat_le, ◌==◌, codes}
use Rattle.std.specs.Char.{is_ascii_digit}
use Rattle.std.specs.List.{zip}
use Rattle.std.specs.Str.{bytes_eq}
use Rattle.cj_ir.specs.Texts.{is_letter, keywords}
use Rattle.cj_tokens.specs.Bytes.{is_minus, is_quote, begins}
use Rattle.cj_tokens.specs.Lexemes.{Lexeme}
use Rattle.cj_tokens.specs.declared.terminal.Terminal.{Terminal}
use Rattle.cj_tokens.specs.declared.terminal.Terminal.TheVariants.{End, BadCharacter, BadNumber, Name, Number, Text, Fun, Nop, Op, Cond, Call, Return, Print}
use Rattle.cj_tokens.specs.declared.terminal.Terminal.TheVariants.{Load, Store, Fail, Neg, Eqz, Calls, Guess, Cold, Then, Else, Warm, Memory, Limit, Events}
use Rattle.cj_tokens.specs.declared.terminal.Terminal.TheVariants.{Begin, Step, Compile, Anchors, Assume, Delay, Const, Inline, When, Never, Keep, OpenParen}
use Rattle.cj_tokens.specs.declared.terminal.Terminal.TheVariants.{CloseParen, OpenBrace, CloseBrace, OpenBracket, CloseBracket, Comma, Semicolon, Colon}
use Rattle.cj_tokens.specs.declared.terminal.Terminal.TheVariants.{Equals, Plus, Minus, Star, Slash, Percent, Less, Arrow}

-- the terminal beside the bytes in a table; where they are not in it, another
abbrev pub lookup : List (List ℕ × Terminal) → Terminal → List ℕ → Terminal
lookup [] other t = other
lookup (e ∷ es) other t = cond (bytes_eq e.0 t) e.1 (lookup es other t)

-- the terminals of the keywords, in the order of their list
abbrev pub keyword_terminals : List Terminal
keyword_terminals =
    Fun ∷ Nop ∷ Op ∷ Cond ∷ Call ∷ Return ∷ Print ∷ Load ∷ Store ∷ Fail ∷ Neg ∷ Eqz ∷ Calls ∷ Guess ∷ Cold ∷ Then ∷ Else ∷ Warm ∷ Memory ∷ Limit ∷ Events
    ∷ Begin ∷ Step ∷ Compile ∷ Anchors ∷ Assume ∷ Delay ∷ Const ∷ Inline ∷ When ∷ Never ∷ Keep ∷ []

-- the keywords
unfoldable pub keyword_table : List (List ℕ × Terminal)
keyword_table = zip keywords keyword_terminals

-- the marks
unfoldable pub mark_table : List (List ℕ × Terminal)
mark_table =
    (codes "(", OpenParen) ∷ (codes ")", CloseParen) ∷ (codes "{", OpenBrace) ∷ (codes "}", CloseBrace) ∷ (codes "[", OpenBracket) ∷ (codes "]", CloseBracket)
    ∷ (codes ",", Comma) ∷ (codes ";", Semicolon) ∷ (codes ":", Colon) ∷ (codes "=", Equals) ∷ (codes "+", Plus) ∷ (codes "-", Minus) ∷ (codes "*", Star)
    ∷ (codes "/", Slash) ∷ (codes "%", Percent) ∷ (codes "<", Less) ∷ (codes "->", Arrow) ∷ []

-- a word that is no keyword is a NAME
abbrev pub word_terminal : List ℕ → Terminal
word_terminal t = lookup keyword_table Name t

-- a byte that is no mark begins no token
abbrev pub mark_terminal : List ℕ → Terminal
mark_terminal t = lookup mark_table BadCharacter t

-- digits, or `-` before digits, told by the first byte and those behind it
abbrev pub begins_number : ℕ → List ℕ → Bool
begins_number b bs = is_ascii_digit b || (is_minus b && begins is_ascii_digit bs)

-- the number that decimal digits write behind those of n
unfoldable pub value : ℕ → List ℕ → ℕ
value n [] = n
value n (b ∷ bs) = value (10 * n + (b - 48)) bs

-- a number without its sign
abbrev pub digits : List ℕ → List ℕ
digits t = cond (begins is_minus t) (drop 1 t) t

abbrev pub magnitude : List ℕ → ℕ
magnitude t = value 0 (digits t)

abbrev pub fits_i64 : List ℕ → Bool
fits_i64 t = nat_le (magnitude t) (cond (begins is_minus t) 9223372036854775808 9223372036854775807)

abbrev pub number_value : List ℕ → ℤ
number_value t = cond (begins is_minus t) (neg_ℤ (pos (magnitude t))) (pos (magnitude t))

-- what a token's bytes make it; no bytes are the end
unfoldable pub terminal_of : List ℕ → Terminal
terminal_of [] = End
terminal_of (b ∷ bs) =
    cond (is_letter b) (word_terminal (b ∷ bs))
    (cond (begins_number b bs) (cond (fits_i64 (b ∷ bs)) Number BadNumber)
    (cond (is_quote b) (cond (length bs == 0) BadCharacter Text)
    (mark_terminal (b ∷ bs))))

-- a token's bytes; of a TEXT those between its quotes
unfoldable pub text_of : List ℕ → List ℕ
text_of t = cond (begins is_quote t) (take (length t - 2) (drop 1 t)) t

-- a NUM's value; 0 of any other token
unfoldable pub worth : List ℕ → ℤ
worth [] = pos 0
worth (b ∷ bs) = cond (begins_number b bs && fits_i64 (b ∷ bs)) (number_value (b ∷ bs)) (pos 0)

unfoldable pub lexeme_of : ℕ → List ℕ → Lexeme
lexeme_of line t = record { terminal = terminal_of t; line = line; text = text_of t; number = worth t }
