-- What is known where tokens have no offence.
use Rattle.std.proofs.Common.{◌≡◌, ℕ, ◌+◌, ◌<◌, ◌≤◌, ℤ, pos, negsuc, ◌+ℤ◌, true, false, Bool, List, [], ◌∷◌, ◌++◌, length, take, ◌⊎◌, inl, inr, refl, sym, ◌∙◌}
use Rattle.std.proofs.Common.{length-take, arith}
use Rattle.std.specs.Prelude.{Option, Some, None, unwrap_or, position, slice_get, unsigned_abs, int_le, int_lt, not, ◌&&◌, ◌==◌}
use Rattle.std.specs.List.{find}
use Rattle.std.specs.Str.{bytes_eq}
use Rattle.std.proofs.lemmas.Bool.Decides.{nat_tests}
use Rattle.std.proofs.lemmas.List.Quantifiers.{position-Some}
use Rattle.std.proofs.lemmas.Bool.{not-false}
use Rattle.cj_ir.specs.WellFormed.{Takes}
use Rattle.cj_ir.specs.declared.language.Function.{Function}
use Rattle.cj_ir.specs.declared.language.Line.{Line}
use Rattle.cj_tokens.specs.Lexemes.{Lexeme}
use Rattle.cj_tokens.specs.declared.refusal.Kind.TheVariants.{TooMany, Range, NoFunction, Arguments, NoRegister, NoLabel, NotCond}
use Rattle.cj_tokens.specs.declared.refusal.Refused.{Refused}
use Rattle.cj_grammar.specs.Reading.{offends_if, missing, highest}
use Rattle.cj_script.specs.Fitting.{HasParameter, HasCond}
use Rattle.cj_script.specs.Meaning.{is_named, function_named, id_named, parameter_named, is_numbered, line_numbered, is_cond, long_name, out_of_range}
use Rattle.cj_script.specs.Meaning.{function_offences, other_count, callee_offences, limit_offences, parameter_offences, parameter_of, no_cond, label_offences}
use Rattle.cj_script.specs.Meaning.{label_of}
use Rattle.cj_script.proofs.Naming.{find_placed, find_none}
pub use Rattle.cj_grammar.proofs.Unoffended.{none_of, none_if, none_missing}

-- ---- lists of offences

pub none_highest : (es : List Refused) → highest es ≡ [] → es ≡ []
none_highest [] h = refl
none_highest (e ∷ es) h = cc

-- ---- numbers

within_abs : (low high : ℕ) (z : ℤ) → not (int_le (pos low) z && int_le z (pos high)) ≡ false → (pos (unsigned_abs z) ≡ z) × (low ≤ unsigned_abs z)
    × (unsigned_abs z ≤ high)
within_abs low high (pos k) h = (refl, grind (arith, nat_tests), grind (arith, nat_tests))
within_abs low high (negsuc k) h = cc

pub in_range : (low high : ℕ) (t : Lexeme) → out_of_range (pos low) (pos high) t ≡ [] →
    (pos (unsigned_abs t.number) ≡ t.number) × (low ≤ unsigned_abs t.number) × (unsigned_abs t.number ≤ high)
in_range low high t h =
    within_abs low high t.number (none_if (not (int_le (pos low) t.number && int_le t.number (pos high))) t Range h)

limit_parts : (spent : ℤ) (limit : Lexeme) → limit_offences spent limit ≡ [] → (int_lt (pos 4000000) (spent +ℤ limit.number) ≡ false)
    × (out_of_range (pos 1) (pos 1000000) limit ≡ [])
limit_parts spent limit h =
    let far : Bool = int_lt (pos 4000000) (spent +ℤ limit.number) in
    let both : (offends_if far limit TooMany ≡ [])
    × (out_of_range (pos 1) (pos 1000000) limit ≡ []) = none_of (offends_if far limit TooMany) (out_of_range (pos 1) (pos 1000000) limit)
    (none_highest (offends_if far limit TooMany ++ out_of_range (pos 1) (pos 1000000) limit) h) in
    (none_if far limit TooMany both.0, both.1)

pub limit_natural : (spent : ℤ) (limit : Lexeme) → limit_offences spent limit ≡ [] → pos (unsigned_abs limit.number) ≡ limit.number
limit_natural spent limit h = (in_range 1 1000000 limit (limit_parts spent limit h).1).0

few_together : (spent : ℕ) (z : ℤ) → pos (unsigned_abs z) ≡ z → int_lt (pos 4000000) (pos spent +ℤ z) ≡ false → spent + unsigned_abs z ≤ 4000000
few_together spent (pos k) n h = grind (arith, nat_tests)
few_together spent (negsuc k) n h = cc

pub limit_fine : (spent : ℕ) (limit : Lexeme) → limit_offences (pos spent) limit ≡ [] → (1 ≤ unsigned_abs limit.number) × (unsigned_abs limit.number ≤ 1000000)
    × (spent + unsigned_abs limit.number ≤ 4000000)
limit_fine spent limit h =
    let parts : (int_lt (pos 4000000) (pos spent +ℤ limit.number) ≡ false)
    × (out_of_range (pos 1) (pos 1000000) limit ≡ []) = limit_parts (pos spent) limit h in
    let within : (pos (unsigned_abs limit.number) ≡ limit.number) × (1 ≤ unsigned_abs limit.number)
    × (unsigned_abs limit.number ≤ 1000000) = in_range 1 1000000 limit parts.1 in
    (within.1, within.2, few_together spent limit.number within.0 parts.0)

-- ---- functions

known_place : (o : Option ℕ) → ((k : ℕ) × (o ≡ Some k)) ⊎ (o ≡ None)
known_place (Some k) = inl (k, refl)
known_place None = inr refl

-- what is found stands at its place
find_place : {X : Type 0} (p : X → Bool) (xs : List X) (x : X) → find p xs ≡ Some x → slice_get xs (unwrap_or (position p xs) 0) ≡ Some x
find_place p xs x h = elim (known_place (position p xs)) [
  | inl k ↦ rw k.1 (sym (find_placed p xs k.0 k.1) ∙ h)
  | inr e ↦ let n : find p xs ≡ None = find_none p xs e in cc
]

pub function_fine : (functions : List Function) (name : Lexeme) → function_offences functions name ≡ [] →
    (f : Function) × (function_named functions name ≡ Some f) × (slice_get functions (id_named functions name).0 ≡ Some f)
unfolding function_offences
function_fine functions name h =
    let there : missing (function_named functions name) name NoFunction
    ≡ [] = (none_of (long_name name) (missing (function_named functions name) name NoFunction)
    (none_highest (long_name name ++ missing (function_named functions name) name NoFunction) h)).1 in
    let found : (f : Function) × (function_named functions name ≡ Some f) = none_missing (function_named functions name) name NoFunction there in
    (found.0, found.1, find_place (is_named name) functions found.0 found.1)

count_fine : (f : Function) (count : ℕ) (name : Lexeme) → other_count (Some f) count name ≡ [] → f.params ≡ count
count_fine f count name h =
    let other : not (f.params == count) ≡ false = none_if (not (f.params == count)) name Arguments h in
    grind (arith, nat_tests)

pub callee_fine : (functions : List Function) (count : ℕ) (name : Lexeme) → callee_offences functions count name ≡ [] →
    Takes functions (id_named functions name) count
unfolding callee_offences
callee_fine functions count name h =
    let both : (function_offences functions name ≡ [])
    × (other_count (function_named functions name) count name ≡ []) = none_of (function_offences functions name)
    (other_count (function_named functions name) count name)
    (none_highest (function_offences functions name ++ other_count (function_named functions name) count name) h) in
    let found : (f : Function) × (function_named functions name ≡ Some f)
    × (slice_get functions (id_named functions name).0 ≡ Some f) = function_fine functions name both.0 in
    let same : other_count (Some found.0) count name ≡ [] = rw found.1 at both.1 in
    (found.0, found.2, count_fine found.0 count name same)

-- ---- parameters and labels

pub parameter_fine : (functions : List Function) (name parameter : Lexeme) → function_offences functions name ≡ [] →
    parameter_offences (function_named functions name) parameter ≡ [] →
    HasParameter functions (id_named functions name) (parameter_of (function_named functions name) parameter)
parameter_fine functions name parameter h g =
    let found : (f : Function) × (function_named functions name ≡ Some f)
    × (slice_get functions (id_named functions name).0 ≡ Some f) = function_fine functions name h in
    let own : parameter_offences (Some found.0) parameter ≡ [] = rw found.1 at g in
    let there : missing (parameter_named found.0 parameter) parameter NoRegister
    ≡ [] = (none_of (long_name parameter) (missing (parameter_named found.0 parameter) parameter NoRegister)
    (none_highest (long_name parameter ++ missing (parameter_named found.0 parameter) parameter NoRegister) own)).1 in
    let place : (k : ℕ) × (parameter_named found.0 parameter ≡ Some k) = none_missing (parameter_named found.0 parameter) parameter NoRegister there in
    let within : place.0
    < length (take found.0.params found.0.regs) = (position-Some (λ r. bytes_eq r parameter.text) (take found.0.params found.0.regs) place.0 [] place.1).0
    in
    let few : place.0 < found.0.params = omega (arith, length-take found.0.params found.0.regs) in
    (found.0, found.2, rw (found.1, place.1) few)

cond_fine : (line : Line) (number : Lexeme) → no_cond (Some line) number ≡ [] → is_cond line.instr ≡ true
cond_fine line number h = not-false (is_cond line.instr) (none_if (not (is_cond line.instr)) number NotCond h)

pub label_fine : (functions : List Function) (name number : Lexeme) → function_offences functions name ≡ [] →
    label_offences (function_named functions name) number ≡ [] → HasCond functions (id_named functions name) (label_of (function_named functions name) number)
label_fine functions name number h g =
    let found : (f : Function) × (function_named functions name ≡ Some f)
    × (slice_get functions (id_named functions name).0 ≡ Some f) = function_fine functions name h in
    let own : label_offences (Some found.0) number ≡ [] = rw found.1 at g in
    let both : (missing (line_numbered found.0 number) number NoLabel ≡ [])
    × (no_cond (line_numbered found.0 number) number ≡ []) = none_of (missing (line_numbered found.0 number) number NoLabel)
    (no_cond (line_numbered found.0 number) number) own in
    let line : (line : Line) × (line_numbered found.0 number ≡ Some line) = none_missing (line_numbered found.0 number) number NoLabel both.0 in
    let test : no_cond (Some line.0) number ≡ [] = rw line.1 at both.1 in
    (found.0, line.0, found.2, rw found.1 (find_place (is_numbered number) found.0.code line.0 line.1), cond_fine line.0 number test)
