use Rattle.std.proofs.Common.{◌≡◌, ℕ, List, [], ◌∷◌, length, drop, Ok, IfOk, refl, sym, ap, ◌∙◌, subst}
use Rattle.std.specs.Prelude.{max, Result}
use Rattle.cj_tokens.specs.Left.{left, source, stream}
use Rattle.cj_tokens.specs.Lexemes.{Lexeme}
use Rattle.cj_tokens.specs.Pieces.{next_of}
use Rattle.cj_tokens.specs.Scan.{items, size_of, last_items, lexemes_of}
use Rattle.cj_tokens.specs.Spellings.{keyword_table, mark_table, value, terminal_of, text_of, worth, lexeme_of}
use Rattle.cj_tokens.specs.declared.piece.Piece.TheVariants.{Keyword}
use Rattle.cj_tokens.specs.declared.piece.Token.{Token}
use Rattle.cj_tokens.specs.declared.refusal.Refused.{Refused}
use Rattle.cj_tokens.specs.declared.tokens.Tokens.{Tokens}
use Rattle.cj_grammar.specs.OneAhead.{eat}
use Rattle.cj_grammar.specs.Rules.{names, line, lines, head, fun, more_funs, funs}
use Rattle.cj_grammar.specs.Shapes.{GoesPast}
use Rattle.cj_grammar.proofs.ShapesLaws.{past_funs}
use Rattle.cj_test_language.proofs.grammar.behind_a_function.Goals as goal

abbrev text : List ℕ
text = 102 ∷ 117 ∷ 110 ∷ 32 ∷ 102 ∷ 40 ∷ 41 ∷ 123 ∷ 125 ∷ 10 ∷ 99 ∷ 97 ∷ 108 ∷ 108 ∷ 115 ∷ []

abbrev rest : List Lexeme
rest = drop 6 (lexemes_of text)

eaten : eat funs (lexemes_of text) ≡ Ok rest
unfolding items size_of keyword_table mark_table terminal_of text_of worth lexeme_of names line lines head fun more_funs funs
eaten = refl

only_rest : (new : List Lexeme) → GoesPast (lexemes_of text) new → new ≡ rest
only_rest new past =
    let e : eat funs (lexemes_of text) ≡ Ok new = ap (eat funs) (sym past.all) ∙ past_funs past.tree new past.no_more in
    let o : Ok new ≡ Ok rest = sym e ∙ eaten in cc

abbrev calls : Token
calls = record { line = 2; start = 10; end = 15; what = Keyword }

next_is : next_of (last_items (max 1 (length rest)) text) ≡ Ok calls
unfolding next_of items size_of keyword_table mark_table terminal_of text_of worth lexeme_of
next_is = refl

pub returns-in-Ok : goal.returns-in-Ok
returns-in-Ok c =
    let tokens : Tokens = c.shape.new.self in
    let behind : left tokens
    ≡ rest = only_rest (left tokens) (subst (λ (ts : List Lexeme). GoesPast ts (left tokens)) c.of-tokens.ensures.left c.in-Ok.ensures.past) in
    let same : source tokens ≡ text = c.in-Ok.ensures.text ∙ c.of-tokens.ensures.source in
    let items : stream tokens ≡ last_items (max 1 (length rest)) text =
    c.places_are_told.ensures
    ∙ (ap (λ ts. last_items (max 1 (length ts)) (source tokens)) behind ∙ ap (λ bytes. last_items (max 1 (length rest)) bytes) same) in
    let answer : c.next.result ≡ Ok calls = c.next.ensures.answer ∙ (ap next_of items ∙ next_is) in
    subst (λ (r : Result Token Refused). IfOk r (λ token. token ≡ calls)) (sym answer) refl
