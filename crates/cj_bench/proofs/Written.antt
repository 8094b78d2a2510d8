-- Names of a generated program are names, and its constants and arguments are values.
use Rattle.std.proofs.Common.{◌≡◌, ◌∙◌, refl, subst, zero-add, ℕ, ◌+◌, ◌*◌, ◌%◌, ◌<◌, ◌==◌, ℤ, pos, List, [], ◌∷◌, All, Bool, true, false, if◌then◌else◌, arith}
use Rattle.std.proofs.Common.{get_or}
use Rattle.std.specs.Fmt.{digits}
use Rattle.std.specs.List.{range_with_len, list_all, AllByRecursion}
use Rattle.std.proofs.lemmas.List.Elements.{All-nil, All-cons}
use Rattle.std.proofs.lemmas.List.FromFn.{get_or-range_with_len}
use Rattle.std.proofs.lemmas.List.Sums.{AllPass-from_list_all}
use Rattle.cj_ir.specs.Texts.{is_name}
use Rattle.cj_ir.specs.declared.language.Instr.{Instr}
use Rattle.cj_ir.specs.declared.language.Line.{Line}
use Rattle.cj_text.specs.Written.{IsValue, IsOperandWritten, IsInstrWritten, IsFunctionWritten, IsProgramWritten, IsSetupWritten, IsCallWritten}
use Rattle.cj_text.specs.Written.{IsScriptWritten}
use Rattle.cj_bench.specs.Generated.{drawn, after, reg, s, b, lines_of, eighth_of, function_name, register_names, function_of, function_drawn, functions_drawn}
use Rattle.cj_bench.specs.Generated.{call_drawn, calls_drawn, generated_program, generated_script}
use Rattle.cj_bench.proofs.Fine.{all_made}

-- one fact after the other
all_told : {X : Type 0} (P : X → Type 0) (xs : List X) → AllByRecursion P xs → All P xs
all_told P [] h = All-nil P
all_told P (x ∷ xs) h = All-cons P x xs h.0 (all_told P xs h.1)

-- ---- names

names_pass : list_all (λ i. is_name (function_name i)) (range_with_len 0 32) ≡ true
unfolding function_name digits
names_pass = refl

pub is_function_name : (index : ℕ) → index < 32 → is_name (function_name index) ≡ true
is_function_name index below =
    let named : is_name (function_name (get_or (range_with_len 0 32) index 0)) ≡ true =
    AllPass-from_list_all (λ i. is_name (function_name i)) (range_with_len 0 32) names_pass index 0 below in
    subst (λ i. is_name (function_name i) ≡ true) (get_or-range_with_len 0 32 index 0 below ∙ zero-add index) named

register_names_pass : list_all is_name register_names ≡ true
register_names_pass = refl

-- ---- instructions

chosen : {X : Type 0} (P : X → Type 0) (test : Bool) (x y : X) → P x → P y → P (if test then x else y)
chosen P true x y here there = here
chosen P false x y here there = there

eighth_written : (index : ℕ) (cell : ℤ) → IsValue cell → IsInstrWritten (eighth_of index cell)
unfolding eighth_of
eighth_written index cell value =
    chosen IsInstrWritten (index == 31) _ _ value
    (all_told IsOperandWritten (reg s ∷ reg b ∷ []) (tt, (tt, tt)))

abbrev LineWritten : Line → Type 0
LineWritten line = IsInstrWritten line.instr

lines_written : (factor divisor bound cell : ℤ) (eighth : Instr) → IsValue factor → IsValue divisor → IsValue bound → IsValue cell → IsInstrWritten eighth →
    All LineWritten (lines_of factor divisor bound cell eighth)
unfolding lines_of
lines_written factor divisor bound cell eighth hf hd hb hc he =
    all_told LineWritten (lines_of factor divisor bound cell eighth)
    ((tt, hf), ((tt, hd), ((tt, hb), (tt, ((tt, tt), ((tt, tt), ((hc, tt), (he, (tt, (tt, tt))))))))))

-- ---- the program

function_written : (index x : ℕ) → index < 32 → IsFunctionWritten (function_drawn index x)
unfolding function_drawn function_of
function_written index x below =
    let factor : IsValue (pos (drawn x % 97 + 1)) = omega arith in
    let divisor : IsValue (pos (drawn (after 1 x) % 89 + 2)) = omega arith in
    let bound : IsValue (pos (drawn (after 2 x) % 89)) = omega arith in
    let cell : IsValue (pos (drawn (after 3 x) % 64)) = omega arith in
    record {
      name = is_function_name index below;
      registers = AllPass-from_list_all is_name register_names register_names_pass;
      instructions = lines_written _ _ _ _ _ factor divisor bound cell (eighth_written index _ cell);
    }

pub program_written : (number : ℕ) → IsProgramWritten (generated_program number)
unfolding generated_program functions_drawn
program_written number =
    all_made (λ i. function_drawn i (after (4 * i) number)) IsFunctionWritten 32 (λ i below. function_written i (after (4 * i) number) below)

-- ---- the script

call_written : (x : ℕ) → IsCallWritten (call_drawn x)
unfolding call_drawn
call_written x =
    let first : IsValue (pos (drawn x % 1000)) = omega arith in
    let second : IsValue (pos (drawn (after 1 x) % 5)) = omega arith in
    all_told IsValue (pos (drawn x % 1000) ∷ pos (drawn (after 1 x) % 5) ∷ []) (first, (second, tt))

pub script_written : (number : ℕ) → IsScriptWritten (generated_script number)
unfolding generated_script calls_drawn
script_written number =
    record {
      setups = All-nil IsSetupWritten;
      calls = all_made (λ k. call_drawn (after (2 * k) (after 128 number))) IsCallWritten 256 (λ k below. call_written (after (2 * k) (after 128 number)));
    }
