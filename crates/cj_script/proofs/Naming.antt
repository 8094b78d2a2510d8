-- What the offences of a function's NAME are, where its place is known.
use Rattle.std.proofs.Common.{◌≡◌, ℕ, ◌<◌, ◌≤◌, Bool, true, false, cond, List, [], ◌∷◌, ◌++◌, length, Ok, Err, refl, ap, sym, ◌∙◌, arith}
use Rattle.std.specs.Prelude.{Some, None, position, slice_get, nat_lt, ◌==◌}
use Rattle.std.specs.List.{find, position_or_len}
use Rattle.std.proofs.lemmas.Bool.Decides.{nat_tests}
use Rattle.std.proofs.lemmas.List.Folds.{find_at}
use Rattle.std.proofs.lemmas.Option.{slice_get_past}
use Rattle.cj_ir.specs.declared.language.FunId.{FunId}
use Rattle.cj_ir.specs.declared.language.Function.{Function}
use Rattle.cj_ir.specs.declared.language.Label.{Label}
use Rattle.cj_ir.specs.declared.language.Line.{Line}
use Rattle.cj_tokens.specs.Lexemes.{Lexeme}
use Rattle.cj_tokens.specs.declared.refusal.Kind.TheVariants.{NoFunction, Arguments, NoLabel, NotCond}
use Rattle.cj_tokens.specs.declared.refusal.Refused.{Refused}
use Rattle.cj_grammar.specs.Reading.{offence, highest}
use Rattle.cj_script.specs.Meaning.{is_named, function_named, id_named, long_name, function_offences, callee_offences, other_count, is_numbered, is_cond}
use Rattle.cj_script.specs.Meaning.{label_offences, label_of}
use Rattle.cj_script.specs.Reading.{judged}
use Rattle.cj_ir.proofs.ListReads.{at_index}

-- the first offence is no value
judged_ok : {X : Type 0} (es : List Refused) (x y : X) → judged es x ≡ Ok y → (es ≡ []) × (x ≡ y)
judged_ok [] x y h = let e : x ≡ y = cc in (refl, e)
judged_ok (e ∷ es) x y h = cc

place_chosen : (b : Bool) (m k : ℕ) → cond b (Some m) None ≡ Some k → m ≡ k
place_chosen true m k h = cc
place_chosen false m k h = cc

none_chosen : (b : Bool) (m : ℕ) → cond b (Some m) None ≡ None → b ≡ false
none_chosen true m h = cc
none_chosen false m h = refl

pub find_placed : {X : Type 0} (p : X → Bool) (xs : List X) (k : ℕ) → position p xs ≡ Some k → find p xs ≡ slice_get xs k
find_placed p xs k h =
    find_at p xs ∙ ap (slice_get xs) (place_chosen (nat_lt (position_or_len p xs) (length xs)) (position_or_len p xs) k h)

pub find_none : {X : Type 0} (p : X → Bool) (xs : List X) → position p xs ≡ None → find p xs ≡ None
find_none p xs h =
    let b : nat_lt (position_or_len p xs) (length xs) ≡ false = none_chosen (nat_lt (position_or_len p xs) (length xs)) (position_or_len p xs) h in
    let past : length xs ≤ position_or_len p xs = grind (arith, nat_tests) in
    find_at p xs ∙ slice_get_past xs (position_or_len p xs) past

short : (t : Lexeme) → length t.text ≤ 32 → long_name t ≡ []
short t h = let e : nat_lt 32 (length t.text) ≡ false = grind (arith, nat_tests) in rw e refl

-- The NAME of a function that is there has no offence.
pub named_judged : (functions : List Function) (name : Lexeme) (k : ℕ) → length name.text ≤ 32 → k < length functions →
    position (is_named name) functions ≡ Some k → judged (function_offences functions name) (id_named functions name)
    ≡ Ok (let id : FunId = record { 0 = k } in id)
unfolding function_offences
named_judged functions name k h w p =
    let s : (f : Function) × (slice_get functions k ≡ Some f) = at_index functions k w in
    let e : find (is_named name) functions ≡ Some s.0 = find_placed (is_named name) functions k p ∙ s.1 in
    let l : long_name name ≡ [] = short name h in
    rw (l, e, p) refl

-- The NAME of no function.
pub unnamed_judged : (functions : List Function) (name : Lexeme) → length name.text ≤ 32 → position (is_named name) functions ≡ None →
    judged (function_offences functions name) (id_named functions name) ≡ Err (offence name NoFunction)
unfolding function_offences
unnamed_judged functions name h p =
    let e : find (is_named name) functions ≡ None = find_none (is_named name) functions p in
    let l : long_name name ≡ [] = short name h in
    rw (l, e) refl

pub placed_named : (functions : List Function) (name : Lexeme) (k : ℕ) → position (is_named name) functions ≡ Some k →
    slice_get functions k ≡ function_named functions name
placed_named functions name k p = sym (find_placed (is_named name) functions k p)

-- The NAME of a function with as many parameters as there are arguments.
pub callee_judged : (functions : List Function) (count : ℕ) (name : Lexeme) (id : FunId) (f : Function) →
    judged (function_offences functions name) (id_named functions name) ≡ Ok id → function_named functions name ≡ Some f → f.params ≡ count →
    judged (callee_offences functions count name) (id_named functions name) ≡ Ok id
unfolding callee_offences
callee_judged functions count name id f h e n =
    let o : (function_offences functions name ≡ [])
    × (id_named functions name ≡ id) = judged_ok (function_offences functions name) (id_named functions name) id h in
    let t : (f.params == count) ≡ true = grind (arith, nat_tests) in
    rw (o.0, e, t, o.1) refl

-- The NAME of one with another number of parameters.
pub count_judged : (functions : List Function) (count : ℕ) (name : Lexeme) (id : FunId) (f : Function) →
    judged (function_offences functions name) (id_named functions name) ≡ Ok id → function_named functions name ≡ Some f → (f.params ≡ count → ⊥) →
    judged (callee_offences functions count name) (id_named functions name) ≡ Err (offence name Arguments)
unfolding callee_offences
count_judged functions count name id f h e n =
    let o : (function_offences functions name ≡ [])
    × (id_named functions name ≡ id) = judged_ok (function_offences functions name) (id_named functions name) id h in
    let t : (f.params == count) ≡ false = grind (arith, nat_tests) in
    rw (o.0, e, t) refl

pub callee_unnamed : (functions : List Function) (count : ℕ) (name : Lexeme) (e : Refused) →
    judged (function_offences functions name) (id_named functions name) ≡ Err e → judged (callee_offences functions count name) (id_named functions name)
    ≡ Err e
unfolding callee_offences
callee_unnamed functions count name e h = go (function_offences functions name) h
  where
    go : (es : List Refused) → judged es (id_named functions name) ≡ Err e →
        judged (highest (es ++ other_count (function_named functions name) count name)) (id_named functions name) ≡ Err e
    go [] h = cc
    go (f ∷ fs) h = let g : f ≡ e = cc in rw g refl

-- ---- the number of a line

pub cond_judged : (f : Function) (number : Lexeme) (k : ℕ) (line : Line) → position (is_numbered number) f.code ≡ Some k → slice_get f.code k ≡ Some line →
    is_cond line.instr ≡ true → judged (label_offences (Some f) number) (label_of (Some f) number) ≡ Ok (let label : Label = record { 0 = k } in label)
cond_judged f number k line p s h =
    let e : find (is_numbered number) f.code ≡ Some line = find_placed (is_numbered number) f.code k p ∙ s in
    rw (e, h, p) refl

pub no_cond_judged : (f : Function) (number : Lexeme) (k : ℕ) (line : Line) → position (is_numbered number) f.code ≡ Some k → slice_get f.code k ≡ Some line →
    is_cond line.instr ≡ false → judged (label_offences (Some f) number) (label_of (Some f) number) ≡ Err (offence number NotCond)
no_cond_judged f number k line p s h =
    let e : find (is_numbered number) f.code ≡ Some line = find_placed (is_numbered number) f.code k p ∙ s in
    rw (e, h) refl

pub no_label_judged : (f : Function) (number : Lexeme) → position (is_numbered number) f.code ≡ None →
    judged (label_offences (Some f) number) (label_of (Some f) number) ≡ Err (offence number NoLabel)
no_label_judged f number p =
    let e : find (is_numbered number) f.code ≡ None = find_none (is_numbered number) f.code p in
    rw e refl
