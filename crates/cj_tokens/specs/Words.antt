-- What is known of the bytes of a name and of a text.
use Rattle.std.specs.Prelude.{ℕ, Bool, not, ◌&&◌, ◌||◌, List}
use Rattle.std.specs.List.{list_all}
use Rattle.cj_ir.specs.Texts.{starts_with_letter, is_letter_or_digit, is_keyword, is_text_byte}
use Rattle.cj_tokens.specs.Lexemes.{Lexeme, is_terminal}
use Rattle.cj_tokens.specs.declared.terminal.Terminal.TheVariants.{Name, Text}

-- A letter or `_`, then letters, digits and `_`, and no keyword: a name, if it is short enough.
abbrev pub is_free_word : List ℕ → Bool
is_free_word bytes = starts_with_letter bytes && list_all is_letter_or_digit bytes && not (is_keyword bytes)

-- a NAME is such a word, and a TEXT has only the bytes that it may have
abbrev pub is_well : Lexeme → Bool
is_well t =
    (not (is_terminal Name t) || is_free_word t.text) && (not (is_terminal Text t) || list_all is_text_byte t.text)
