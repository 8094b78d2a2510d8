-- Where a function's tokens have no offences, the function is well formed.
use Rattle.std.proofs.Common.{◌≡◌, ◌≢◌, ℕ, ℤ, pos, negsuc, ◌+◌, ◌<◌, ◌≤◌, List, [], ◌∷◌, ◌++◌, length, true, false, refl, ap, sym, ◌∙◌, arith, All, not, subst}
use Rattle.std.proofs.Common.{length-append, Some}
use Rattle.std.specs.Prelude.{nat_le, ◌==◌, map}
use Rattle.std.specs.List.{list_any}
use Rattle.std.specs.Ordering.{int_eq}
use Rattle.std.proofs.lemmas.Bool.Decides.{nat_tests, Decides-int_eq}
use Rattle.std.proofs.lemmas.List.{length-map, map-append}
use Rattle.std.proofs.lemmas.List.Elements.{All-nil, All-cons, All-head, All-tail, All-append}
use Rattle.std.proofs.lemmas.Bool.{or_parts, not-false}
use Rattle.cj_reader.proofs.Differing.{AreNewBy, differing}
use Rattle.cj_ir.specs.WellFormed.{Takes, IsInstrFine, IsFunctionFine}
use Rattle.cj_ir.specs.declared.language.Line.{Line}
use Rattle.cj_ir.specs.declared.language.Function.{Function}
use Rattle.cj_tokens.specs.Lexemes.{Lexeme}
use Rattle.cj_tokens.specs.declared.refusal.Kind.TheVariants.{TooMany, Range, LabelTwice, NoEntry}
use Rattle.cj_tokens.specs.declared.refusal.Refused.{Refused}
use Rattle.cj_grammar.specs.Grammar.{Tree}
use Rattle.cj_grammar.specs.Rules.{line, lines, head, fun}
use Rattle.cj_grammar.specs.Reading.{offends_if, each_offends}
use Rattle.cj_reader.specs.declared.scope.Callee.{Callee}
use Rattle.cj_reader.specs.Scopes.{Scope, Head, first_named}
use Rattle.cj_reader.specs.Operands.{is_line_number}
use Rattle.cj_reader.specs.Instructions.{instr_offences}
use Rattle.cj_reader.specs.Functions.{name_offences, names_offences, texts_of, function_name, param_tokens, other_tokens, head_offences, number_offences}
use Rattle.cj_reader.specs.Functions.{line_number, line_offences, natural, line_of, numbers_of, lines_offences, lines_of, function_scope, function_offences}
use Rattle.cj_reader.specs.Functions.{function_of}
use Rattle.cj_reader.proofs.LineLaws.{number}
use Rattle.cj_grammar.proofs.Unoffended.{none_of, none_if}
use Rattle.cj_reader.proofs.Fine.{below, some_items, from_within}
use Rattle.cj_reader.proofs.FineParts.{Bounded, Called, instr_fine}
use Rattle.cj_reader.proofs.FineNames.{names_few, names_new, new_and_new}

natural_same : (a b : ℤ) → is_line_number a ≡ true → is_line_number b ≡ true → natural a ≡ natural b → a ≡ b
natural_same (pos m) (pos n) h g e = ap pos e
natural_same (pos m) (negsuc n) h g e = cc
natural_same (negsuc m) b h g e = cc

natural_small : (a : ℤ) → is_line_number a ≡ true → natural a ≤ 65535
natural_small (pos n) h = grind (arith, nat_tests)
natural_small (negsuc n) h = cc

-- ---- lines

abbrev Numbered : Tree line → Type 0
Numbered t = is_line_number (number t) ≡ true

name_is : (s : Scope) (t : Tree line) → (line_of s t).name ≡ natural (number t)
unfolding line line_of line_number
name_is s (n, (colon, i)) = refl

new_number : (s : Scope) (x : ℤ) (done : List (Tree line)) → is_line_number x ≡ true → All Numbered done → list_any (λ other. int_eq other x) (map number done)
    ≡ false → All (λ other. other.name ≢ natural x) (map (line_of s) done)
new_number s x [] r all h = All-nil (λ (other : Line). other.name ≢ natural x)
new_number s x (d ∷ done) r all h =
    let p : (int_eq (number d) x ≡ false) × (list_any (λ other. int_eq other x) (map number done) ≡ false) = or_parts (int_eq (number d) x)
    (list_any (λ other. int_eq other x) (map number done)) h in
    let here : (line_of s d).name ≢ natural x = λ e.
    let same : number d ≡ x = natural_same (number d) x (All-head Numbered d done all) r (sym (name_is s d) ∙ e) in
    let t : int_eq (number d) x ≡ true = (Decides-int_eq (number d) x).1 same in cc in
    All-cons (λ (other : Line). other.name ≢ natural x) (line_of s d) (map (line_of s) done) here (new_number s x done r (All-tail Numbered d done all) p.1)

record NumberFine (earlier : List ℤ) (t : Lexeme) : Type 0 where
  few : length earlier < 256
  small : is_line_number t.number ≡ true
  new : list_any (λ other. int_eq other t.number) earlier ≡ false

number_fine : (earlier : List ℤ) (t : Lexeme) → number_offences earlier t ≡ [] → NumberFine earlier t
number_fine earlier t h =
    let rest : List Refused = offends_if (not (is_line_number t.number)) t Range
    ++ offends_if (list_any (λ other. int_eq other t.number) earlier) t LabelTwice in
    let p : (offends_if (nat_le 256 (length earlier)) t TooMany ≡ []) × (rest ≡ []) = none_of (offends_if (nat_le 256 (length earlier)) t TooMany) rest h in
    let q : (offends_if (not (is_line_number t.number)) t Range ≡ [])
    × (offends_if (list_any (λ other. int_eq other t.number) earlier) t LabelTwice ≡ []) = none_of (offends_if (not (is_line_number t.number)) t Range)
    (offends_if (list_any (λ other. int_eq other t.number) earlier) t LabelTwice) p.1 in
    record {
      few = below 256 (length earlier) (none_if (nat_le 256 (length earlier)) t TooMany p.0);
      small = not-false (is_line_number t.number) (none_if (not (is_line_number t.number)) t Range q.0);
      new = none_if (list_any (λ other. int_eq other t.number) earlier) t LabelTwice q.1;
    }

record LinesFine (s : Scope) (functions : List Function) (count : ℕ) (done ts : List (Tree line)) : Type 0 where
  few : length done ≤ 256 → length done + length ts ≤ 256
  small : All (λ line. line.name ≤ 65535) (map (line_of s) ts)
  new : AreNewBy (λ line. line.name) (map (line_of s) done) (map (line_of s) ts)
  fine : All (λ line. IsInstrFine functions (length s.registers) count line.instr) (map (line_of s) ts)

module _ (s : Scope) (functions : List Function) (count : ℕ) (b : Bounded s count) (known : Called s functions) where
  abbrev Small : Line → Type 0
  Small l = l.name ≤ 65535

  abbrev Fine : Line → Type 0
  Fine l = IsInstrFine functions (length s.registers) count l.instr

  lines_fine : (done ts : List (Tree line)) → All Numbered done → each_offends (line_offences s) number (map number done) ts ≡ [] →
      LinesFine s functions count done ts
  unfolding line line_offences line_of line_number
  lines_fine done [] all h = record {
    few = λ (l : length done ≤ 256). omega arith;
    small = All-nil Small;
    new = tt;
    fine = All-nil Fine;
  }
  lines_fine done ((n, (colon, i)) ∷ ts) all h =
      let t : Tree line = (n, (colon, i)) in
      let os : List Refused = each_offends (line_offences s) number (map number done ++ n.token.number ∷ []) ts in
      let p : (number_offences (map number done) n.token ++ instr_offences s i ≡ [])
      × (os ≡ []) = none_of (number_offences (map number done) n.token ++ instr_offences s i) os h in
      let q : (number_offences (map number done) n.token ≡ [])
      × (instr_offences s i ≡ []) = none_of (number_offences (map number done) n.token) (instr_offences s i) p.0 in
      let f : NumberFine (map number done) n.token = number_fine (map number done) n.token q.0 in
      let all' : All Numbered (done ++ t ∷ []) = All-append Numbered done (t ∷ []) all (All-cons Numbered t [] f.small (All-nil Numbered)) in
      let again : each_offends (line_offences s) number (map number (done ++ t ∷ [])) ts
      ≡ [] = ap (λ ns. each_offends (line_offences s) number ns ts) (map-append number done (t ∷ [])) ∙ p.1 in
      let rest : LinesFine s functions count (done ++ t ∷ []) ts = lines_fine (done ++ t ∷ []) ts all' again in
      let d : length (map number done) ≡ length done = length-map done number in
      let e : length (done ++ t ∷ []) ≡ length done + 1 = length-append done (t ∷ []) in
      let lt : length (map number done) < 256 = f.few in
      let m : map (line_of s) (done ++ t ∷ []) ≡ map (line_of s) done ++ line_of s t ∷ [] = map-append (line_of s) done (t ∷ []) in
      record {
        few = λ (l : length done ≤ 256). (let less : length (done ++ t ∷ []) ≤ 256 = omega arith in let more : length (done ++ t ∷ []) + length ts
            ≤ 256 = rest.few less in omega arith);
        small = All-cons Small (line_of s t) (map (line_of s) ts) (natural_small n.token.number f.small) rest.small;
        new = (new_number s n.token.number done f.small all f.new, subst (λ (zs : List Line). AreNewBy (λ line. line.name) zs (map (line_of s) ts)) m rest.new);
        fine = All-cons Fine (line_of s t) (map (line_of s) ts) (instr_fine s functions count b known i q.1) rest.fine;
      }

-- ---- functions

bounded : (heads : List Head) (front : Tree head) (body : Tree lines) → Bounded (function_scope heads front body) (length (numbers_of body))
bounded heads front body n place h =
    let p : place < 0 + length (numbers_of body) = from_within (λ other. int_eq other n) 0 (numbers_of body) place h in omega arith

pub function_fine : (heads : List Head) (functions : List Function) (earlier : List (List ℕ)) (t : Tree fun) →
    ((name : List ℕ) (callee : Callee) → first_named 0 heads name ≡ Some callee → Takes functions callee.function callee.params) →
    function_offences heads earlier t ≡ [] → IsFunctionFine functions (function_of heads t)
unfolding fun function_offences function_of lines numbers_of lines_offences lines_of
function_fine heads functions earlier (front, (left, (body, right))) known h =
    let s : Scope = function_scope heads front body in
    let ps : List Lexeme = param_tokens front in
    let os : List Lexeme = other_tokens front in
    let names : List Refused = names_offences 8 [] ps ++ names_offences 32 (texts_of ps) os in
    let entry : List Refused = offends_if (length (numbers_of body) == 0) right.token NoEntry in
    let p : (head_offences earlier front ≡ [])
    × (lines_offences s body ++ entry ≡ []) = none_of (head_offences earlier front) (lines_offences s body ++ entry) h in
    let q : (name_offences 64 earlier (function_name front) ≡ []) × (names ≡ []) = none_of (name_offences 64 earlier (function_name front)) names p.0 in
    let r : (names_offences 8 [] ps ≡ [])
    × (names_offences 32 (texts_of ps) os ≡ []) = none_of (names_offences 8 [] ps) (names_offences 32 (texts_of ps) os) q.1 in
    let l : (lines_offences s body ≡ []) × (entry ≡ []) = none_of (lines_offences s body) entry p.1 in
    let counted : length (numbers_of body) ≡ length (map (line_of s) body) = length-map body number ∙ sym (length-map body (line_of s)) in
    let b : Bounded s (length (map (line_of s) body)) = subst (λ (n : ℕ). Bounded s n) counted (bounded heads front body) in
    let f : LinesFine s functions (length (map (line_of s) body)) [] body = lines_fine s functions (length (map (line_of s) body)) b known [] body
    (All-nil Numbered) l.0 in
    let zero_few : 0 ≤ 256 = omega arith in
    let lines_few : 0 + length body ≤ 256 = f.few zero_few in
    let lines_count : length (map (line_of s) body) ≡ length body = length-map body (line_of s) in
    let eight : 0 ≤ 8 = omega arith in
    let ps_few : 0 + length ps ≤ 8 = names_few 8 [] ps r.0 eight in
    let ps_count : length (texts_of ps) ≡ length ps = length-map ps (λ t. t.text) in
    let os_count : length (texts_of os) ≡ length os = length-map os (λ t. t.text) in
    let within : length (texts_of ps) ≤ 32 = omega arith in
    let all_few : length (texts_of ps) + length os ≤ 32 = names_few 32 (texts_of ps) os r.1 within in
    let regs_count : length (texts_of ps ++ texts_of os) ≡ length (texts_of ps) + length (texts_of os) = length-append (texts_of ps) (texts_of os) in
    let filled : 0 < length (numbers_of body) = some_items (numbers_of body) (none_if (length (numbers_of body) == 0) right.token NoEntry l.1) in
    let numbers_count : length (numbers_of body) ≡ length body = length-map body number in
    record {
      few_params = omega arith;
      params_are_registers = omega arith;
      few_registers = omega arith;
      registers_differ = differing (λ (name : List ℕ). name) (texts_of ps ++ texts_of os)
          (new_and_new (λ (name : List ℕ). name) [] (texts_of ps) (texts_of os) (names_new 8 [] ps r.0) (names_new 32 (texts_of ps) os r.1));
      has_entry = omega arith;
      few_labels = omega arith;
      small_labels = f.small;
      labels_differ = differing (λ (line : Line). line.name) _ f.new;
      instructions = f.fine;
    }
