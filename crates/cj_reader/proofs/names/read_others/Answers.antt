use Rattle.std.proofs.Common.{◌≡◌, ℕ, List, true, sym, ap, ◌∙◌, subst}
use Rattle.cj_tokens.specs.Left.{left}
use Rattle.cj_tokens.specs.Lexemes.{Lexeme, is_terminal}
use Rattle.cj_tokens.specs.Passing.{front, behind}
use Rattle.cj_tokens.specs.declared.terminal.Terminal.TheVariants as terminal
use Rattle.cj_grammar.specs.Readers.{Gives, Read}
use Rattle.cj_reader.specs.Prescans.{count_at}
use Rattle.cj_reader.specs.Reading.{names_at, others_at}
use Rattle.cj_reader.proofs.Turns.{ok_same}
use Rattle.cj_reader.proofs.NameLaws.{others_there}
use Rattle.cj_reader.proofs.names.read_others.Goals as goal

pub returns-in_ok-count-clause-reads : goal.returns-in_ok-count-clause-reads
returns-in_ok-count-clause-reads c =
    let ts : List Lexeme = left c.args.tokens.now in
    let us : List Lexeme = left c.take-mark.new.self in
    let n : ℕ = c.in_ok-count.count in
    let ps : List (List ℕ) = c.args.params in
    let t : is_terminal terminal.Semicolon (front ts) ≡ true = sym c.is_at.ensures ∙ c.if-is_at.true in
    let l : us ≡ behind ts = c.take-mark.ensures.left in
    let m : count_at (behind ts) ≡ n = ap count_at (sym l) ∙ ok_same c.in_ok-count.ensures in
    let e : names_at 32 n ps us ≡ others_at ps ts = ap (λ vs. names_at 32 n ps vs) l
    ∙ (ap (λ k. names_at 32 k ps (behind ts)) (sym m) ∙ sym (others_there ps ts t)) in
    subst (λ (r : Read (List (List ℕ))). Gives c.read_names.result (left c.read_names.new.tokens) r) e c.read_names.ensures.reads
