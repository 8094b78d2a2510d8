use Rattle.std.proofs.Common.{◌≡◌, ℕ, List, Ok, false, length, sym, ap, ◌∙◌, subst, ◌||◌}
use Rattle.std.specs.Prelude.{nat_le}
use Rattle.std.specs.List.{list_any}
use Rattle.std.specs.Str.{bytes_eq}
use Rattle.cj_tokens.specs.Seen.{seen}
use Rattle.cj_tokens.specs.Left.{left}
use Rattle.cj_tokens.specs.Lexemes.{Lexeme}
use Rattle.cj_tokens.specs.Passing.{behind}
use Rattle.cj_tokens.specs.declared.refusal.Kind.TheVariants.{TooMany, NameTwice}
use Rattle.cj_grammar.specs.OneAhead.{◌>>=◌}
use Rattle.cj_grammar.specs.Readers.{Gives, Read}
use Rattle.cj_reader.specs.Operands.{is_long}
use Rattle.cj_reader.specs.Reading.{word_at, name_at}
use Rattle.cj_reader.proofs.Decided.{passed, found_gives}
use Rattle.cj_reader.proofs.NameLaws.{name_there}
use Rattle.cj_reader.proofs.names.read_name.Goals as goal

pub returns-clause-reads : goal.returns-clause-reads
returns-clause-reads c =
    let t : Lexeme = seen c.take-token.result in
    let ts : List Lexeme = left c.args.tokens.now in
    let us : List Lexeme = left c.take-token.new.self in
    let earlier : List (List ℕ) = c.args.earlier.now in
    let few : (is_long t || nat_le c.args.limit (length earlier)) ≡ false =
    sym c.is_too_many-too_many.ensures ∙ passed c.is_too_many-too_many.result t TooMany _ c.in_ok-refuse_if.ensures in
    let new : list_any (λ other. bytes_eq other t.text) earlier ≡ false =
    sym c.is_among-twice.ensures ∙ passed c.is_among-twice.result t NameTwice _ c.in_ok-refuse_if-2.ensures in
    let e : name_at c.args.limit earlier ts
    ≡ (word_at t >>= λ name. Ok (name, behind ts)) = name_there c.args.limit earlier ts t c.take-token.ensures.token few new in
    let f : (word_at t >>= λ name. Ok (name, us)) ≡ name_at c.args.limit earlier ts =
    ap (λ (vs : List Lexeme). word_at t >>= λ name. Ok (name, vs)) c.take-token.ensures.left ∙ sym e in
    subst (λ (r : Read (List ℕ)). Gives c.word.result us r) f (found_gives c.word.result (word_at t) us c.word.ensures)
