-- What is looked up ahead of the reading: counts of lists, the numbers of lines, and the heads of functions.
use Rattle.std.specs.Prelude.{ℕ, ℤ, suc, Bool, cond, ◌&&◌, ◌||◌, not, List, [], ◌∷◌, ◌++◌, nat_eq}
use Rattle.cj_tokens.specs.Lexemes.{Lexeme, number_of, is_terminal}
use Rattle.cj_tokens.specs.Passing.{front, behind}
use Rattle.cj_tokens.specs.declared.terminal.Terminal.{Terminal}
use Rattle.cj_tokens.specs.declared.terminal.Terminal.TheVariants.{End, Fun, CloseParen, CloseBrace, Comma, Semicolon, Colon}
use Rattle.cj_reader.specs.Scopes.{Head}

-- the end of a list: a `)` or `;`
abbrev pub ends_list : Lexeme → Bool
ends_list t = is_terminal CloseParen t || is_terminal Semicolon t || is_terminal End t

-- how many items stand before the end of a list
unfoldable pub count_at : List Lexeme → ℕ
count_at [] = 0
count_at (t ∷ ts) = cond (ends_list t) 0 (cond (is_terminal Comma t) (count_at ts) (suc (count_at ts)))

-- the end of a function
abbrev pub ends_body : Lexeme → Bool
ends_body t = is_terminal CloseBrace t || is_terminal End t

-- the number of a line, where a `:` is next
abbrev pub numbered : Lexeme → Terminal → List ℤ
numbered t next = cond (nat_eq (number_of next) (number_of Colon)) (t.number ∷ []) []

-- the numbers before a `:`, up to the function's `}`
unfoldable pub numbers_at : List Lexeme → List ℤ
numbers_at [] = []
numbers_at (t ∷ ts) =
    cond (ends_body t) [] (numbered t (front ts).terminal ++ numbers_at ts)

-- the name behind `fun`, and how many parameters stand behind the `(` after it
abbrev pub head_at : List Lexeme → Head
head_at ts = record { name = (front ts).text; params = count_at (behind (behind ts)) }

-- the head of a function, behind `fun`
abbrev pub headed : Lexeme → List Lexeme → List Head
headed t ts = cond (is_terminal Fun t) (head_at ts ∷ []) []

-- the end of the last function: a `}` with no other function behind it
abbrev pub ends_functions : Lexeme → List Lexeme → Bool
ends_functions t ts = is_terminal End t || (is_terminal CloseBrace t && not (is_terminal Fun (front ts)))

-- the heads of functions, up to the end of the last one
unfoldable pub heads_at : List Lexeme → List Head
heads_at [] = []
heads_at (t ∷ ts) = cond (ends_functions t ts) [] (headed t ts ++ heads_at ts)
