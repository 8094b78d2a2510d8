-- Words for readers: what is read from the front of some tokens, and what the code answers then.
use Rattle.std.specs.Prelude.{◌≡◌, ℕ, zero, suc, List, [], ◌∷◌, ◌++◌, Option, None, Some, Result, Ok, Err}
use Rattle.cj_tokens.specs.Lexemes.{Lexeme}
use Rattle.cj_grammar.specs.OneAhead.{◌>>=◌}
use Rattle.cj_tokens.specs.declared.refusal.Refused.{Refused}
use Rattle.cj_tokens.specs.declared.refusal.ParseError as parse
use Rattle.cj_tokens.specs.declared.refusal.ParseError.TheVariants as parse_error

-- what was read from the front of some tokens, with what is left of them
abbrev pub Read : Type 0 → Type 0
Read X = Result (X × List Lexeme) Refused

-- the first offence, or the meaning
abbrev pub reads : {X : Type 0} → List Refused → X → List Lexeme → Read X
reads [] x ts = Ok (x, ts)
reads (e ∷ es) x ts = Err e

abbrev pub found : {X : Type 0} → Option X → Refused → Result X Refused
found None e = Err e
found (Some x) e = Ok x

-- A number of items, each read behind the earlier ones.
abbrev pub each_at : {X : Type 0} → (List X → List Lexeme → Read X) → ℕ → List X → List Lexeme → Read (List X)
each_at one zero earlier ts = Ok (earlier, ts)
each_at one (suc n) earlier ts = one earlier ts >>= λ x. each_at one n (earlier ++ x.0 ∷ []) x.1

-- What the code answered, where a reader of lists is given; want of memory may come at any time.

abbrev pub Fails : {Y : Type 0} → parse.ParseError → Result Y Refused → Type 0
Fails parse_error.NoMemory read = Unit {0}
Fails (parse_error.Refused e) read = read ≡ Err e

abbrev pub Found : {X : Type 0} → Result X parse.ParseError → Result X Refused → Type 0
Found (Ok x) read = read ≡ Ok x
Found (Err e) read = Fails e read

abbrev pub Gives : {X : Type 0} → Result X parse.ParseError → List Lexeme → Result (X × List Lexeme) Refused → Type 0
Gives (Ok x) left read = read ≡ Ok (x, left)
Gives (Err e) left read = Fails e read
