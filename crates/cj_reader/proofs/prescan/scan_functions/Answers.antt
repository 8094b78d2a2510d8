use Rattle.std.proofs.Common.{◌≡◌, List, ◌++◌, true, false, sym, ap, ◌∙◌, subst}
use Rattle.std.proofs.lemmas.List.{append-nil}
use Rattle.cj_tokens.specs.Seen.{seen}
use Rattle.cj_tokens.specs.Left.{left}
use Rattle.cj_tokens.specs.Passing.{front, behind}
use Rattle.cj_reader.specs.Scopes.{Head}
use Rattle.cj_reader.specs.Prescans.{ends_functions, headed, heads_at}
use Rattle.cj_reader.specs.Known.{ListsFunctions}
use Rattle.cj_reader.proofs.Turns.{heads_end, heads_turn, functions_shorter}
use Rattle.cj_reader.proofs.prescan.scan_functions.Goals as goal

pub more-smaller : goal.more-smaller
more-smaller c =
    let h : ends_functions (front (left c.more.tokens)) (behind (left c.more.tokens)) ≡ false = sym c.ends_functions.ensures ∙ c.more-test.true in
    rw c.take-token.ensures.left (functions_shorter (left c.more.tokens) h)

pub more-preserved : goal.more-preserved
more-preserved c =
    let h : ends_functions (front (left c.more.tokens)) (behind (left c.more.tokens)) ≡ false = sym c.ends_functions.ensures ∙ c.more-test.true in
    let done : List Head = c.more.invariant.0 in
    let new : List Head = headed (seen c.take-token.result) (left c.take-token.new.self) in
    let next : new ≡ headed (front (left c.more.tokens)) (behind (left c.more.tokens)) =
    ap (λ t. headed t (left c.take-token.new.self)) c.take-token.ensures.token ∙ ap (λ us. headed (front (left c.more.tokens)) us) c.take-token.ensures.left in
    let e : heads_at (left c.args.tokens) ≡ (done ++ new) ++ heads_at (left c.take-token.new.self) =
    heads_turn done new (left c.args.tokens) (left c.more.tokens) (left c.take-token.new.self) c.more.invariant.2 h next c.take-token.ensures.left in
    (done ++ new, c.in-Ok.ensures.noted done c.more.invariant.1, e)

pub returns-clause-functions : goal.returns-clause-functions
returns-clause-functions c =
    let h : ends_functions (front (left c.more.tokens)) (behind (left c.more.tokens)) ≡ true = sym c.ends_functions.ensures ∙ c.more-test.false in
    let e : heads_at (left c.args.tokens) ≡ c.more.invariant.0 =
    c.more.invariant.2 ∙ rw (heads_end (left c.more.tokens) h) (append-nil c.more.invariant.0) in
    subst (λ (hs : List Head). ListsFunctions hs c.more.functions) (sym e) c.more.invariant.1
