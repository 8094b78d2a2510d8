-- States behind draws, and one more function or call.
use Rattle.std.proofs.Common.{◌≡◌, ◌∙◌, sym, ap, refl, ℕ, zero, suc, ◌+◌, ◌*◌, List, [], ◌∷◌, ◌++◌, arith}
use Rattle.std.specs.Fn.{iterate}
use Rattle.std.proofs.lemmas.List.FromFn.{map-range_with_len_more}
use Rattle.cj_ir.specs.declared.language.Function.{Function}
use Rattle.cj_ir.specs.declared.script.ScriptCall.{ScriptCall}
use Rattle.cj_bench.specs.Generated.{next_state, after, function_drawn, functions_drawn, call_drawn, calls_drawn}

steps : (m n x : ℕ) → iterate next_state m (iterate next_state n x) ≡ iterate next_state (n + m) x
steps m zero x = let e : m ≡ 0 + m = omega arith in ap (λ k. iterate next_state k x) e
steps m (suc n) x =
    let e : suc (n + m) ≡ suc n + m = omega arith in
    steps m n (next_state x) ∙ ap (λ k. iterate next_state k x) e

-- draws behind draws
pub after_more : (m n k x : ℕ) → n + m ≡ k → after m (after n x) ≡ after k x
unfolding after
after_more m n k x e = steps m n x ∙ ap (λ j. iterate next_state j x) e

pub after_none : (x : ℕ) → after 0 x ≡ x
unfolding after
after_none x = refl

pub no_functions : (x : ℕ) → functions_drawn 0 x ≡ []
unfolding functions_drawn
no_functions x = refl

pub no_calls : (x : ℕ) → calls_drawn 0 x ≡ []
unfolding calls_drawn
no_calls x = refl

functions_more : (n x : ℕ) → functions_drawn (n + 1) x ≡ functions_drawn n x ++ function_drawn n (after (4 * n) x) ∷ []
unfolding functions_drawn
functions_more n x =
    map-range_with_len_more (λ i. function_drawn i (after (4 * i) x)) 0 n n (omega arith)

calls_more : (n x : ℕ) → calls_drawn (n + 1) x ≡ calls_drawn n x ++ call_drawn (after (2 * n) x) ∷ []
unfolding calls_drawn
calls_more n x = map-range_with_len_more (λ k. call_drawn (after (2 * k) x)) 0 n n (omega arith)

-- a turn of the loops
pub one_function : (n x y : ℕ) (before now : List Function) → before ≡ functions_drawn n x → y ≡ after (4 * n) x → now ≡ before ++ function_drawn n y ∷ [] →
    now ≡ functions_drawn (n + 1) x
one_function n x y before now earlier state step =
    step
    ∙ ap (λ (fs : List Function). fs ++ function_drawn n y ∷ []) earlier
    ∙ ap (λ z. functions_drawn n x ++ function_drawn n z ∷ []) state
    ∙ sym (functions_more n x)

pub one_call : (n x y : ℕ) (before now : List ScriptCall) → before ≡ calls_drawn n x → y ≡ after (2 * n) x → now ≡ before ++ call_drawn y ∷ [] →
    now ≡ calls_drawn (n + 1) x
one_call n x y before now earlier state step =
    step
    ∙ ap (λ (calls : List ScriptCall). calls ++ call_drawn y ∷ []) earlier
    ∙ ap (λ z. calls_drawn n x ++ call_drawn z ∷ []) state
    ∙ sym (calls_more n x)

pub draws_more : (m n x y z : ℕ) → y ≡ after (m * n) x → z ≡ after m y → z ≡ after (m * (n + 1)) x
draws_more m n x y z state step =
    let e : m * n + m ≡ m * (n + 1) = omega arith in
    step ∙ ap (after m) state ∙ after_more m (m * n) (m * (n + 1)) x e
