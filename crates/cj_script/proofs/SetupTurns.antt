-- The readers of setups, turn by turn.
use Rattle.std.proofs.Common.{◌≡◌, ◌<◌, ◌≤◌, pos, true, false, List, [], ◌∷◌, ◌++◌, length, Ok, Err, refl, arith}
use Rattle.std.specs.Prelude.{unsigned_abs}
use Rattle.cj_ir.specs.declared.language.Function.{Function}
use Rattle.cj_ir.specs.declared.script.Setup.{Setup}
use Rattle.cj_tokens.specs.Lexemes.{Lexeme, is_terminal}
use Rattle.cj_tokens.specs.Passing.{front, behind}
use Rattle.cj_tokens.specs.declared.refusal.Refused.{Refused}
use Rattle.cj_tokens.specs.declared.terminal.Terminal.TheVariants as terminal
use Rattle.cj_script.specs.Meaning.{function_named, id_named, out_of_range, function_offences, parameter_offences, parameter_of, label_offences, label_of}
use Rattle.cj_script.specs.Reading.{guess_at, cold_at, warm_at, setup_at, is_setup, next_setup, setups_at}
use Rattle.cj_script.proofs.Turns.{behind_within, Within, ok_within, judged_within, cond_within, all_stops, all_fails, all_goes}

guess_within : (functions : List Function) (ts : List Lexeme) → Within Setup (length ts) (guess_at functions ts)
unfolding guess_at
guess_within functions ts =
    let one : length (behind ts) ≤ length ts = behind_within ts in
    let two : length (behind (behind ts)) ≤ length (behind ts) = behind_within (behind ts) in
    let three : length (behind (behind (behind ts))) ≤ length (behind (behind ts)) = behind_within (behind (behind ts)) in
    judged_within (function_offences functions (front ts)) (id_named functions (front ts)) (length ts) _
    (judged_within (parameter_offences (function_named functions (front ts)) (front (behind ts)))
    (parameter_of (function_named functions (front ts)) (front (behind ts))) (length ts) _
    (ok_within _ (length ts) (behind (behind (behind ts))) (omega arith)))

cold_within : (functions : List Function) (ts : List Lexeme) → Within Setup (length ts) (cold_at functions ts)
unfolding cold_at
cold_within functions ts =
    let one : length (behind ts) ≤ length ts = behind_within ts in
    let two : length (behind (behind ts)) ≤ length (behind ts) = behind_within (behind ts) in
    let three : length (behind (behind (behind ts))) ≤ length (behind (behind ts)) = behind_within (behind (behind ts)) in
    judged_within (function_offences functions (front ts)) (id_named functions (front ts)) (length ts) _
    (judged_within (label_offences (function_named functions (front ts)) (front (behind ts)))
    (label_of (function_named functions (front ts)) (front (behind ts))) (length ts) _
    (ok_within _ (length ts) (behind (behind (behind ts))) (omega arith)))

warm_within : (functions : List Function) (ts : List Lexeme) → Within Setup (length ts) (warm_at functions ts)
unfolding warm_at
warm_within functions ts =
    let one : length (behind ts) ≤ length ts = behind_within ts in
    let two : length (behind (behind ts)) ≤ length (behind ts) = behind_within (behind ts) in
    judged_within (function_offences functions (front ts)) (id_named functions (front ts)) (length ts) _
    (judged_within (out_of_range (pos 1) (pos 3) (front (behind ts))) (unsigned_abs (front (behind ts)).number) (length ts) _
    (ok_within _ (length ts) (behind (behind ts)) (omega arith)))

setup_within : (functions : List Function) (ts : List Lexeme) → Within Setup (length (behind ts)) (setup_at functions ts)
unfolding setup_at
setup_within functions ts =
    cond_within (is_terminal terminal.Guess (front ts)) (length (behind ts)) (guess_at functions (behind ts)) _ (guess_within functions (behind ts))
    (cond_within (is_terminal terminal.Cold (front ts)) (length (behind ts)) (cold_at functions (behind ts)) (warm_at functions (behind ts))
    (cold_within functions (behind ts)) (warm_within functions (behind ts)))

setup_taken : (ts : List Lexeme) → is_setup ts ≡ true → length (behind ts) < length ts
unfolding front behind
setup_taken [] h = cc
setup_taken (t ∷ ts) h = omega arith

pub setup_shorter : (functions : List Function) (earlier : List Setup) (ts : List Lexeme) (x : Setup × List Lexeme) → is_setup ts ≡ true →
    next_setup functions earlier ts ≡ Ok x → length x.1 < length ts
setup_shorter functions earlier ts x b h =
    let w : Within Setup (length (behind ts)) (setup_at functions ts) = setup_within functions ts in
    let l : length x.1 ≤ length (behind ts) = w.within x h in
    let s : length (behind ts) < length ts = setup_taken ts b in
    omega arith

pub setups_turn : (functions : List Function) (earlier : List Setup) (ts us : List Lexeme) (setup : Setup) → is_setup ts ≡ true →
    setup_at functions ts ≡ Ok (setup, us) → setups_at functions earlier ts ≡ setups_at functions (earlier ++ setup ∷ []) us
unfolding setups_at front
setups_turn functions earlier ts us setup b h =
    all_goes is_setup (next_setup functions) refl (setup_shorter functions) earlier ts (setup, us) b h

pub setups_fail : (functions : List Function) (earlier : List Setup) (ts : List Lexeme) (e : Refused) → is_setup ts ≡ true → setup_at functions ts ≡ Err e →
    setups_at functions earlier ts ≡ Err e
unfolding setups_at front
setups_fail functions earlier ts e b h = all_fails is_setup (next_setup functions) refl (setup_shorter functions) earlier ts e b h

pub setups_stop : (functions : List Function) (earlier : List Setup) (ts : List Lexeme) → is_setup ts ≡ false →
    setups_at functions earlier ts ≡ Ok (earlier, ts)
unfolding setups_at front
setups_stop functions earlier ts b = all_stops is_setup (next_setup functions) refl (setup_shorter functions) earlier ts b
