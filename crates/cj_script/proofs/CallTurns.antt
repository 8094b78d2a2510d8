-- The readers of calls, turn by turn.
use Rattle.std.proofs.Common.{◌≡◌, ℕ, ◌+◌, ◌<◌, ◌≤◌, pos, Bool, true, false, cond, List, [], ◌∷◌, ◌++◌, length, Ok, Err, refl, arith}
use Rattle.std.specs.Prelude.{nat_le, unsigned_abs}
use Rattle.std.proofs.lemmas.List.Sums.{sum_by_push}
use Rattle.cj_tokens.specs.Lexemes.{Lexeme, is_terminal}
use Rattle.cj_tokens.specs.Passing.{front, behind}
use Rattle.cj_tokens.specs.declared.terminal.Terminal.TheVariants as terminal
use Rattle.cj_tokens.specs.declared.refusal.Kind.TheVariants.{TooMany}
use Rattle.cj_tokens.specs.declared.refusal.Refused.{Refused}
use Rattle.cj_ir.specs.declared.language.Function.{Function}
use Rattle.cj_ir.specs.declared.script.ScriptCall.{ScriptCall}
use Rattle.cj_grammar.specs.Reading.{offence}
use Rattle.cj_script.specs.Meaning.{out_of_range, limit_offences, callee_offences, id_named}
use Rattle.cj_script.specs.Reading.{numbers_at, behind_numbers, cells_at, limit_at, begun_at, is_call, limits, call_at, calls_at}
use Rattle.cj_script.proofs.Turns.{behind_within, Within, ok_within, err_within, judged_within, then_within, cond_within, behind_shorter, all_stops, all_fails}
use Rattle.cj_script.proofs.Turns.{all_goes}

behind_numbers_within : (ts : List Lexeme) → length (behind_numbers ts) ≤ length ts
unfolding behind_numbers
behind_numbers_within [] = omega arith
behind_numbers_within (t ∷ ts) = go (is_terminal terminal.Number t) (behind_numbers_within ts)
  where
    go : (b : Bool) → length (behind_numbers ts) ≤ length ts → length (cond b (behind_numbers ts) (t ∷ ts)) ≤ length (t ∷ ts)
    go true h = omega arith
    go false h = omega arith

cells_within : (ts : List Lexeme) → Within ℕ (length ts) (cells_at ts)
unfolding cells_at
cells_within ts =
    let w : length (behind ts) ≤ length ts = behind_within ts in
    let v : length (behind (behind ts)) ≤ length (behind ts) = behind_within (behind ts) in
    cond_within (is_terminal terminal.Memory (front ts)) (length ts) _ _
    (judged_within (out_of_range (pos 0) (pos 65536) (front (behind ts))) (unsigned_abs (front (behind ts)).number) (length ts) _
    (ok_within (unsigned_abs (front (behind ts)).number) (length ts) (behind (behind ts)) (omega arith)))
    (ok_within 64 (length ts) ts (omega arith))

limit_within : (spent : ℕ) (ts : List Lexeme) → Within ℕ (length ts) (limit_at spent ts)
unfolding limit_at
limit_within spent ts =
    let w : length (behind ts) ≤ length ts = behind_within ts in
    let v : length (behind (behind ts)) ≤ length (behind ts) = behind_within (behind ts) in
    judged_within (limit_offences (pos spent) (front (behind ts))) (unsigned_abs (front (behind ts)).number) (length ts) _
    (ok_within (unsigned_abs (front (behind ts)).number) (length ts) (behind (behind ts)) (omega arith))

-- what begins a run leaves no more tokens than there were
pub begun_within : (functions : List Function) (spent : ℕ) (ts : List Lexeme) → Within ScriptCall (length ts) (begun_at functions spent ts)
unfolding begun_at
begun_within functions spent ts =
    let numbers : length (behind_numbers (behind ts)) ≤ length (behind ts) = behind_numbers_within (behind ts) in
    let name : length (behind ts) ≤ length ts = behind_within ts in
    judged_within (callee_offences functions (length (numbers_at (behind ts))) (front ts)) (id_named functions (front ts)) (length ts) _
    (then_within (cells_at (behind_numbers (behind ts))) (length (behind_numbers (behind ts))) (length ts) _ (cells_within (behind_numbers (behind ts)))
    (λ cells fewer. then_within (limit_at spent cells.1) (length cells.1) (length ts) _ (limit_within spent cells.1)
    (λ limit fewest. ok_within _ (length ts) limit.1 (omega arith))))

pub call_shorter : (functions : List Function) (earlier : List ScriptCall) (ts : List Lexeme) (x : ScriptCall × List Lexeme) → is_call ts ≡ true →
    call_at functions earlier ts ≡ Ok x → length x.1 < length ts
unfolding call_at front
call_shorter functions earlier ts x b h =
    let s : length (behind ts) < length ts = behind_shorter terminal.Call ts refl b in
    let w : Within ScriptCall (length (behind ts)) (call_at functions earlier ts) =
    cond_within (nat_le 256 (length earlier)) (length (behind ts)) (Err (offence (front ts) TooMany)) (begun_at functions (limits earlier) (behind ts))
    (err_within ScriptCall (length (behind ts)) (offence (front ts) TooMany)) (begun_within functions (limits earlier) (behind ts)) in
    let l : length x.1 ≤ length (behind ts) = w.within x h in
    omega arith

pub calls_turn : (functions : List Function) (earlier : List ScriptCall) (ts us : List Lexeme) (call : ScriptCall) → is_call ts ≡ true →
    call_at functions earlier ts ≡ Ok (call, us) → calls_at functions earlier ts ≡ calls_at functions (earlier ++ call ∷ []) us
unfolding calls_at front
calls_turn functions earlier ts us call b h =
    all_goes is_call (call_at functions) refl (call_shorter functions) earlier ts (call, us) b h

pub calls_fail : (functions : List Function) (earlier : List ScriptCall) (ts : List Lexeme) (e : Refused) → is_call ts ≡ true →
    call_at functions earlier ts ≡ Err e → calls_at functions earlier ts ≡ Err e
unfolding calls_at front
calls_fail functions earlier ts e b h = all_fails is_call (call_at functions) refl (call_shorter functions) earlier ts e b h

pub calls_stop : (functions : List Function) (earlier : List ScriptCall) (ts : List Lexeme) → is_call ts ≡ false →
    calls_at functions earlier ts ≡ Ok (earlier, ts)
unfolding calls_at front
calls_stop functions earlier ts b = all_stops is_call (call_at functions) refl (call_shorter functions) earlier ts b

pub limits_more : (calls : List ScriptCall) (call : ScriptCall) → limits (calls ++ call ∷ []) ≡ limits calls + call.limit
limits_more calls call = sum_by_push (λ c. c.limit) calls call
