use Rattle.std.proofs.Common.{◌≡◌, ◌+◌, [], ◌∷◌, ◌++◌, Ok, true, sym, ◌∙◌, refl}
use Rattle.cj_tokens.specs.Left.{left}
use Rattle.cj_script.specs.Reading.{is_call, limits, call_at}
use Rattle.cj_script.proofs.CallTurns.{call_shorter, calls_turn, limits_more}
use Rattle.cj_script.proofs.calls.read_calls.Goals as goal

pub calls-smaller : goal.calls-smaller
calls-smaller c =
    call_shorter c.args.functions.now c.items.result.now (left c.calls.tokens) (c.in-Ok.call, left c.read_call.new.tokens)
    (sym c.is_at.ensures ∙ c.calls-test.true) c.in-Ok.ensures.gives

pub calls-preserved : goal.calls-preserved
calls-preserved c =
    let here : is_call (left c.calls.tokens) ≡ true = sym c.is_at.ensures ∙ c.calls-test.true in
    let read : call_at c.args.functions.now c.calls.calls (left c.calls.tokens)
    ≡ Ok (c.in-Ok.call, left c.read_call.new.tokens) = rw c.items.ensures at c.in-Ok.ensures.gives in
    let more : c.push.new.self ≡ c.calls.calls ++ c.in-Ok.call ∷ [] = c.in-Ok-push.ensures.ok in
    let all : limits (c.calls.calls ++ c.in-Ok.call ∷ []) ≡ limits c.calls.calls + c.in-Ok.call.limit = limits_more c.calls.calls c.in-Ok.call in
    record {
      same = c.calls.invariant.same
          ∙ rw more (calls_turn c.args.functions.now c.calls.calls (left c.calls.tokens) (left c.read_call.new.tokens) c.in-Ok.call here read);
      source = c.in-Ok.ensures.source ∙ c.calls.invariant.source;
      sum = rw (more, all, c.calls.invariant.sum) refl;
      spent = c.in-Ok.ensures.within;
    }
