-- Where the functions of a text have no offences, their program is well formed.
use Rattle.std.proofs.Common.{◌≡◌, ◌≢◌, ℕ, suc, ◌+◌, ◌<◌, ◌≤◌, List, [], ◌∷◌, ◌++◌, length, true, false, cond, refl, ap, sym, ◌∙◌, arith, All, subst}
use Rattle.std.proofs.Common.{length-append, Some, Ok}
use Rattle.std.specs.Prelude.{map, slice_get}
use Rattle.std.specs.List.{list_any}
use Rattle.std.specs.Str.{bytes_eq}
use Rattle.std.proofs.lemmas.Slice.Eq.{bytes_eq-Decides}
use Rattle.std.proofs.lemmas.List.{length-map, map-append}
use Rattle.std.proofs.lemmas.List.Elements.{All-nil, All-cons}
use Rattle.std.proofs.lemmas.Bool.{or_parts}
use Rattle.cj_reader.proofs.Differing.{AreNewBy, differing}
use Rattle.cj_ir.specs.WellFormed.{Takes, IsFunctionFine, IsWellFormed}
use Rattle.cj_ir.specs.declared.language.Function.{Function}
use Rattle.cj_ir.specs.declared.language.Program.{Program}
use Rattle.cj_tokens.specs.Lexemes.{Lexeme}
use Rattle.cj_tokens.specs.declared.refusal.Refused.{Refused}
use Rattle.cj_grammar.specs.Grammar.{Tree}
use Rattle.cj_grammar.specs.Rules.{fun, more_funs, funs}
use Rattle.cj_grammar.specs.Reading.{each_offends}
use Rattle.cj_grammar.specs.Readers.{reads}
use Rattle.cj_grammar.specs.Shapes.{GoesPast, HasFunctions}
use Rattle.cj_reader.specs.declared.scope.Callee.{Callee}
use Rattle.cj_reader.specs.Scopes.{Head, first_named}
use Rattle.cj_reader.specs.Functions.{name_offences, function_name, head_of, head_offences, function_head, function_offences, function_of}
use Rattle.cj_reader.specs.Meaning.{all_functions, heads_of, program_offences, program_of}
use Rattle.cj_reader.specs.Reading.{program_at}
use Rattle.cj_reader.proofs.ProgramLaws.{key, program_reads}
use Rattle.cj_grammar.proofs.Unoffended.{none_of}
use Rattle.cj_reader.proofs.FineNames.{name_few, name_new}
use Rattle.cj_reader.proofs.FineFunctions.{function_fine}

abbrev top : Tree fun → Head
top t = head_of (function_head t)

params_same : (heads : List Head) (t : Tree fun) → (function_of heads t).params ≡ (top t).params
unfolding fun function_of function_head
params_same heads (front, (left, (body, right))) = refl

name_same : (heads : List Head) (t : Tree fun) → (function_of heads t).name ≡ key t
unfolding fun function_of function_head
name_same heads (front, (left, (body, right))) = refl

-- what is found among the heads is a function of the program
record FoundAt (functions : List Function) (i : ℕ) (callee : Callee) : Type 0 where
  step : ℕ
  function : Function
  place : callee.function.0 ≡ i + step
  there : slice_get functions step ≡ Some function
  takes : function.params ≡ callee.params

found_at : (heads : List Head) (i : ℕ) (ts : List (Tree fun)) (name : List ℕ) (callee : Callee) → first_named i (map top ts) name ≡ Some callee →
    FoundAt (map (function_of heads) ts) i callee
found_at heads i [] name callee h = cc
found_at heads i (t ∷ ts) name callee h =
    elim (bytes_eq (top t).name name) as
    (λ b. cond b (Some (record { function = record { 0 = i }; params = (top t).params })) (first_named (i + 1) (map top ts) name) ≡ Some callee →
    FoundAt (map (function_of heads) (t ∷ ts)) i callee) [
      | true ↦ (λ e.
          let c : Callee = record { function = record { 0 = i }; params = (top t).params } in
          let same : c ≡ callee = cc in
          record {
            step = 0;
            function = function_of heads t;
            place = ap (λ (c : Callee). c.function.0) (sym same) ∙ (let n : i ≡ i + 0 = omega arith in n);
            there = refl;
            takes = params_same heads t ∙ ap (λ (c : Callee). c.params) same;
          })
      | false ↦ (λ e.
          let rest : FoundAt (map (function_of heads) ts) (i + 1) callee = found_at heads (i + 1) ts name callee e in
          record {
            step = suc rest.step;
            function = rest.function;
            place = rest.place ∙ (let n : (i + 1) + rest.step ≡ i + suc rest.step = omega arith in n);
            there = rest.there;
            takes = rest.takes;
          })
    ] h

known_all : (heads : List Head) (ts : List (Tree fun)) → heads ≡ map top ts → (name : List ℕ) (callee : Callee) → first_named 0 heads name ≡ Some callee →
    Takes (map (function_of heads) ts) callee.function callee.params
known_all heads ts e name callee h =
    let f : FoundAt (map (function_of heads) ts) 0 callee = found_at heads 0 ts name callee (ap (λ hs. first_named 0 hs name) (sym e) ∙ h) in
    let place : f.step ≡ callee.function.0 = (let n : f.step ≡ 0 + f.step = omega arith in n) ∙ sym f.place in
    (f.function, ap (slice_get (map (function_of heads) ts)) (sym place) ∙ f.there, f.takes)

name_of_head : (heads : List Head) (earlier : List (List ℕ)) (t : Tree fun) → function_offences heads earlier t ≡ [] →
    name_offences 64 earlier (function_name (function_head t)) ≡ []
unfolding fun function_offences function_head
name_of_head heads earlier (front, (left, (body, right))) h =
    (none_of (name_offences 64 earlier (function_name front)) _ (none_of (head_offences earlier front) _ h).0).0

new_name : (heads : List Head) (name : List ℕ) (done : List (Tree fun)) → list_any (λ other. bytes_eq other name) (map key done) ≡ false →
    All (λ other. other.name ≢ name) (map (function_of heads) done)
new_name heads name [] h = All-nil (λ (other : Function). other.name ≢ name)
new_name heads name (d ∷ done) h =
    let p : (bytes_eq (key d) name ≡ false) × (list_any (λ other. bytes_eq other name) (map key done) ≡ false) = or_parts (bytes_eq (key d) name)
    (list_any (λ other. bytes_eq other name) (map key done)) h in
    let here : (function_of heads d).name ≢ name = λ e. let t : bytes_eq (key d) name
    ≡ true = (bytes_eq-Decides (key d) name).1 (sym (name_same heads d) ∙ e) in cc in
    All-cons (λ (other : Function). other.name ≢ name) (function_of heads d) (map (function_of heads) done) here (new_name heads name done p.1)

record FunctionsFine (heads : List Head) (functions : List Function) (done ts : List (Tree fun)) : Type 0 where
  few : length done ≤ 64 → length done + length ts ≤ 64
  new : AreNewBy (λ f. f.name) (map (function_of heads) done) (map (function_of heads) ts)
  fine : All (IsFunctionFine functions) (map (function_of heads) ts)

functions_fine : (heads : List Head) (functions : List Function) →
    ((name : List ℕ) (callee : Callee) → first_named 0 heads name ≡ Some callee → Takes functions callee.function callee.params) →
    (done ts : List (Tree fun)) → each_offends (function_offences heads) key (map key done) ts ≡ [] → FunctionsFine heads functions done ts
functions_fine heads functions known done [] h = record {
  few = λ (l : length done ≤ 64). omega arith;
  new = tt;
  fine = All-nil (IsFunctionFine functions);
}
functions_fine heads functions known done (t ∷ ts) h =
    let os : List Refused = each_offends (function_offences heads) key (map key done ++ key t ∷ []) ts in
    let p : (function_offences heads (map key done) t ≡ []) × (os ≡ []) = none_of (function_offences heads (map key done) t) os h in
    let n : name_offences 64 (map key done) (function_name (function_head t)) ≡ [] = name_of_head heads (map key done) t p.0 in
    let again : each_offends (function_offences heads) key (map key (done ++ t ∷ [])) ts
    ≡ [] = ap (λ ns. each_offends (function_offences heads) key ns ts) (map-append key done (t ∷ [])) ∙ p.1 in
    let rest : FunctionsFine heads functions (done ++ t ∷ []) ts = functions_fine heads functions known (done ++ t ∷ []) ts again in
    let d : length (map key done) ≡ length done = length-map done key in
    let e : length (done ++ t ∷ []) ≡ length done + 1 = length-append done (t ∷ []) in
    let lt : length (map key done) < 64 = name_few 64 (map key done) (function_name (function_head t)) n in
    let m : map (function_of heads) (done ++ t ∷ []) ≡ map (function_of heads) done ++ function_of heads t
    ∷ [] = map-append (function_of heads) done (t ∷ []) in
    let name : All (λ other. other.name ≢ (function_of heads t).name) (map (function_of heads) done) =
    subst (λ (x : List ℕ). All (λ other. other.name ≢ x) (map (function_of heads) done)) (sym (name_same heads t))
    (new_name heads (key t) done (name_new 64 (map key done) (function_name (function_head t)) n)) in
    record {
      few = λ (l : length done ≤ 64). (let less : length (done ++ t ∷ []) ≤ 64 = omega arith in let more : length (done ++ t ∷ []) + length ts
          ≤ 64 = rest.few less in omega arith);
      new = (name, subst (λ (zs : List Function). AreNewBy (λ f. f.name) zs (map (function_of heads) ts)) m rest.new);
      fine = All-cons (IsFunctionFine functions) (function_of heads t) (map (function_of heads) ts) (function_fine heads functions (map key done) t known p.0)
          rest.fine;
    }

some_function : (t : Tree funs) → 0 < length (all_functions t)
unfolding funs more_funs all_functions
some_function (first, more) = omega arith

pub program_fine : (t : Tree funs) → program_offences t ≡ [] → IsWellFormed (program_of t)
unfolding program_offences program_of heads_of
program_fine t h =
    let all : List (Tree fun) = all_functions t in
    let functions : List Function = map (function_of (heads_of t)) all in
    let f : FunctionsFine (heads_of t) functions [] all = functions_fine (heads_of t) functions (known_all (heads_of t) all refl) [] all h in
    let count : length functions ≡ length all = length-map all (function_of (heads_of t)) in
    let some : 0 < length all = some_function t in
    let zero_few : 0 ≤ 64 = omega arith in
    let few : 0 + length all ≤ 64 = f.few zero_few in
    record {
      some_function = omega arith;
      few_functions = omega arith;
      functions_differ = differing (λ (f : Function). f.name) _ f.new;
      functions = f.fine;
    }

-- What is read of functions in front of other tokens.
pub program_is : (ts rest : List Lexeme) (past : GoesPast ts rest) → program_at ts ≡ reads (program_offences past.tree) (program_of past.tree) rest
program_is ts rest past = ap program_at (sym past.all) ∙ program_reads past.tree rest past.no_more

read_so : (es : List Refused) (meant program : Program) (rest us : List Lexeme) → reads es meant rest ≡ Ok (program, us) → (es ≡ []) × (meant ≡ program)
read_so [] meant program rest us h =
    let same : (meant, rest) ≡ (program, us) = cc in
    (refl, ap (λ (p : Program × List Lexeme). p.0) same)
read_so (e ∷ es) meant program rest us h = cc

-- What is read without an offence is well formed.
pub read_fine : (ts : List Lexeme) (program : Program) (us : List Lexeme) → HasFunctions ts → program_at ts ≡ Ok (program, us) → IsWellFormed program
read_fine ts program us has h =
    let tree : Tree funs = has.1.tree in
    let so : (program_offences tree ≡ []) × (program_of tree ≡ program) = read_so (program_offences tree) (program_of tree) program has.0 us
    (sym (program_is ts has.0 has.1) ∙ h) in
    subst (λ (p : Program). IsWellFormed p) so.1 (program_fine tree so.0)
