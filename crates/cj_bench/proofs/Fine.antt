-- A generated program is well-formed, and its script fits it.
use Rattle.std.proofs.Common.{◌≡◌, sym, refl, subst, ℕ, ◌*◌, ◌<◌, ◌≤◌, List, [], length, All, Ok, arith}
use Rattle.std.specs.Prelude.{map, sum_by}
use Rattle.std.specs.Fmt.{digits}
use Rattle.std.specs.List.{range_with_len}
use Rattle.std.proofs.lemmas.List.Elements.{All-nil}
use Rattle.std.proofs.lemmas.List.FromFn.{length-map-range_with_len, get_or-map-range_with_len}
use Rattle.std.proofs.lemmas.List.Sums.{sum_by-le}
use Rattle.cj_ir.specs.Verdicts.{program_verdict}
use Rattle.cj_ir.specs.WellFormed.{IsWellFormed, Takes}
use Rattle.cj_ir.specs.declared.language.Function.{Function}
use Rattle.cj_ir.specs.declared.language.Program.{Program}
use Rattle.cj_ir.specs.declared.script.ScriptCall.{ScriptCall}
use Rattle.cj_ir.specs.declared.script.Setup.{Setup}
use Rattle.cj_ir.proofs.WellFormedLemmas.{Grants-program}
use Rattle.cj_script.specs.Fitting.{FitsSetup, FitsCall, FitsScript}
use Rattle.cj_bench.specs.Generated.{after, lines_of, eighth_of, function_name, function_of, function_drawn, functions_drawn, call_drawn, calls_drawn}
use Rattle.cj_bench.specs.Generated.{generated_program, generated_script}

-- what holds of each number holds of each item
pub all_made : {X : Type 0} (f : ℕ → X) (P : X → Type 0) (n : ℕ) → ((i : ℕ) → i < n → P (f i)) → All P (map f (range_with_len 0 n))
all_made f P n h = λ k d below.
    let within : k < n = subst (λ m. k < m) (length-map-range_with_len f 0 n) below in
    subst P (sym (get_or-map-range_with_len f 0 n k k d within (omega arith))) (h k within)

-- the check's verdict, computed
pub fine_verdict : (number : ℕ) → program_verdict (generated_program number) ≡ Ok tt
unfolding generated_program functions_drawn function_drawn function_of function_name lines_of eighth_of digits
fine_verdict number = refl

pub well_formed : (number : ℕ) → IsWellFormed (generated_program number)
well_formed number = (Grants-program (generated_program number)).to (fine_verdict number)

-- ---- the script

entry_takes : (number : ℕ) → Takes (generated_program number).functions (record { 0 = 0 }) 2
unfolding generated_program functions_drawn function_drawn function_of
entry_takes number = (function_drawn 0 (after 0 number), refl, refl)

call_fits : (number x : ℕ) → FitsCall (generated_program number).functions (call_drawn x)
unfolding call_drawn
call_fits number x =
    record { takes = entry_takes number; few_cells = omega arith; some_turn = omega arith; few_turns = omega arith }

limit_is : (x : ℕ) → (call_drawn x).limit ≡ 15000
unfolding call_drawn
limit_is x = refl

calls_fit : (number x : ℕ) → All (FitsCall (generated_program number).functions) (calls_drawn 256 x)
unfolding calls_drawn
calls_fit number x =
    all_made (λ k. call_drawn (after (2 * k) x)) (FitsCall (generated_program number).functions) 256 (λ k below. call_fits number (after (2 * k) x))

call_count : (x : ℕ) → length (calls_drawn 256 x) ≡ 256
unfolding calls_drawn
call_count x = length-map-range_with_len (λ k. call_drawn (after (2 * k) x)) 0 256

turns_fit : (x : ℕ) → sum_by (λ (call : ScriptCall). call.limit) (calls_drawn 256 x) ≤ 4000000
unfolding calls_drawn
turns_fit x =
    let each : All (λ (call : ScriptCall). call.limit ≤ 15000) (calls_drawn 256 x) =
    all_made (λ k. call_drawn (after (2 * k) x)) (λ call. call.limit ≤ 15000) 256 (λ k below. omega (arith, limit_is (after (2 * k) x)))
    in
    let most : sum_by (λ (call : ScriptCall). call.limit) (calls_drawn 256 x) ≤ length (calls_drawn 256 x) * 15000 =
    sum_by-le (λ (call : ScriptCall). call.limit) 15000 (calls_drawn 256 x) each in
    omega (arith, most, call_count x)

pub script_fits : (number : ℕ) → FitsScript (generated_program number) (generated_script number)
unfolding generated_script
script_fits number =
    record {
      setups = All-nil (FitsSetup (generated_program number).functions);
      calls = calls_fit number (after 128 number);
      few_calls = omega (arith, call_count (after 128 number));
      few_turns = turns_fit (after 128 number);
    }

-- the same of what equals them
pub made_fits : (number x : ℕ) (p : Program) (fs : List Function) (setups : List Setup) (calls : List ScriptCall) → p ≡ record { functions = fs } →
    fs ≡ functions_drawn 32 number → setups ≡ [] → x ≡ after 128 number → calls ≡ calls_drawn 256 x → FitsScript p (record { setups = setups; calls = calls })
unfolding generated_program generated_script
made_fits number x p fs setups calls program functions none state made =
    rw (program, functions, none, made, state) (script_fits number)
