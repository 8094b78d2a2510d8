use Rattle.std.proofs.Common.{◌≡◌, ◌+◌, Ok, cond, true, false, sym, ap, ◌∙◌, add-zero}
use Rattle.cj_tokens.specs.Left.{left}
use Rattle.cj_tokens.specs.Lexemes.{is_terminal}
use Rattle.cj_tokens.specs.Passing.{front}
use Rattle.cj_tokens.specs.declared.terminal.Terminal.TheVariants.{Comma}
use Rattle.cj_reader.specs.Prescans.{ends_list}
use Rattle.cj_reader.proofs.Turns.{ok_same, count_goes, count_ends, list_shorter}
use Rattle.cj_reader.proofs.counts.count_items.Goals as goal

pub more-smaller : goal.more-smaller
more-smaller c =
    let h : ends_list (front (left c.more.tokens)) ≡ false = sym c.ends_list.ensures ∙ c.more-test.true in
    rw c.take-token.ensures.left (list_shorter (left c.more.tokens) h)

pub more-preserved : goal.more-preserved
more-preserved c =
    let h : ends_list (front (left c.more.tokens)) ≡ false = sym c.ends_list.ensures ∙ c.more-test.true in
    let n : cond (is_terminal Comma (front (left c.more.tokens))) c.more.count (c.more.count + 1) ≡ c.in-Ok.next =
    ap (λ t. cond (is_terminal Comma t) c.more.count (c.more.count + 1)) (sym c.take-token.ensures.token) ∙ ok_same c.in-Ok.ensures in
    rw c.take-token.ensures.left (c.more.invariant ∙ count_goes c.more.count c.in-Ok.next (left c.more.tokens) h n)

pub returns : goal.returns
returns c =
    let h : ends_list (front (left c.more.tokens)) ≡ true = sym c.ends_list.ensures ∙ c.more-test.false in
    ap Ok (c.more.invariant ∙ rw (count_ends (left c.more.tokens) h) (add-zero c.more.count))
