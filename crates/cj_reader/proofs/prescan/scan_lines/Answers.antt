use Rattle.std.proofs.Common.{◌≡◌, ℤ, List, ◌++◌, true, false, sym, ap, ◌∙◌, append_assoc, subst}
use Rattle.std.proofs.lemmas.List.{append-nil}
use Rattle.cj_tokens.specs.Seen.{seen}
use Rattle.cj_tokens.specs.Left.{left}
use Rattle.cj_tokens.specs.Passing.{front, behind}
use Rattle.cj_reader.specs.Prescans.{ends_body, numbered, numbers_at}
use Rattle.cj_reader.specs.Known.{ListsLines}
use Rattle.cj_reader.proofs.Turns.{numbers_end, numbers_go, body_shorter}
use Rattle.cj_reader.proofs.prescan.scan_lines.Goals as goal

pub more-smaller : goal.more-smaller
more-smaller c =
    let h : ends_body (front (left c.more.tokens)) ≡ false = sym c.ends_body.ensures ∙ c.more-test.true in
    rw c.take-token.ensures.left (body_shorter (left c.more.tokens) h)

pub more-preserved : goal.more-preserved
more-preserved c =
    let h : ends_body (front (left c.more.tokens)) ≡ false = sym c.ends_body.ensures ∙ c.more-test.true in
    let done : List ℤ = c.more.invariant.0 in
    let new : List ℤ = numbered (seen c.take-token.result) c.peek.result in
    let next : new ≡ numbered (front (left c.more.tokens)) (front (behind (left c.more.tokens))).terminal =
    ap (λ t. numbered t c.peek.result) c.take-token.ensures.token
    ∙ ap (λ k. numbered (front (left c.more.tokens)) k) (c.peek.ensures ∙ ap (λ us. (front us).terminal) c.take-token.ensures.left) in
    let e : numbers_at (left c.args.tokens) ≡ (done ++ new) ++ numbers_at (left c.take-token.new.self) =
    rw (c.take-token.ensures.left, next) (c.more.invariant.2 ∙ (ap (λ ns. done ++ ns) (numbers_go (left c.more.tokens) h) ∙ sym (append_assoc done _ _))) in
    (done ++ new, c.in-Ok.ensures.noted done c.more.invariant.1, e)

pub returns-clause-lines : goal.returns-clause-lines
returns-clause-lines c =
    let h : ends_body (front (left c.more.tokens)) ≡ true = sym c.ends_body.ensures ∙ c.more-test.false in
    let e : numbers_at (left c.args.tokens) ≡ c.more.invariant.0 =
    c.more.invariant.2 ∙ rw (numbers_end (left c.more.tokens) h) (append-nil c.more.invariant.0) in
    subst (λ (ns : List ℤ). ListsLines ns c.more.labels) (sym e) c.more.invariant.1
