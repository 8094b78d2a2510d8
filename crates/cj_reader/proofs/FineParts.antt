-- Where an instruction's tokens have no offences, all that it names exists.
use Rattle.std.proofs.Common.{◌≡◌, ℕ, ℤ, suc, ◌<◌, List, [], ◌∷◌, ◌++◌, length, Option, Some, None, refl, ap, sym, All, not, inl, inr, subst}
use Rattle.std.specs.Prelude.{◌==◌, map, flat_map, unwrap_or, option_map}
use Rattle.std.specs.Str.{bytes_eq}
use Rattle.std.proofs.lemmas.List.{length-map}
use Rattle.std.proofs.lemmas.List.Elements.{All-nil, All-cons}
use Rattle.std.proofs.lemmas.Bool.{not-false}
use Rattle.cj_ir.specs.Values.{IsOperandWithin, IsExprWithin}
use Rattle.cj_ir.specs.WellFormed.{Takes, IsInstrFine}
use Rattle.cj_ir.specs.declared.language.Function.{Function}
use Rattle.cj_ir.specs.declared.language.Operand.{Operand}
use Rattle.cj_ir.specs.declared.language.Instr.{Instr}
use Rattle.cj_tokens.specs.Lexemes.{Lexeme, Is}
use Rattle.cj_tokens.specs.declared.terminal.Terminal.TheVariants as terminal
use Rattle.cj_tokens.specs.declared.refusal.Kind.TheVariants.{TooMany, Range, NoRegister, NoLabel, Arguments}
use Rattle.cj_grammar.specs.Grammar.{Leaf, Tree, opt}
use Rattle.cj_grammar.specs.Rules.{operand, binary, expr, target, operands, more_operands, nop_instr, op_instr, cond_instr, call_instr, return_instr}
use Rattle.cj_grammar.specs.Rules.{print_instr, load_instr, store_instr, fail_instr, instr}
use Rattle.cj_grammar.specs.Alternatives.{of_instr, of_binary}
use Rattle.cj_grammar.specs.Reading.{offends_if, missing}
use Rattle.cj_reader.specs.declared.scope.Callee.{Callee}
use Rattle.cj_reader.specs.Scopes.{Scope, name_place}
use Rattle.cj_reader.specs.Operands.{is_long, is_line_number, register_offences, register_of, label_offences, label_of, target_offences, target_of}
use Rattle.cj_reader.specs.Operands.{operand_offences, operand_of, binary_of, expr_offences, expr_of}
use Rattle.cj_reader.specs.Instructions.{arguments_offences, arguments_of, argument_count, count_offences, callee_offences, callee_of, nop_offences, nop_of}
use Rattle.cj_reader.specs.Instructions.{op_offences, op_of, cond_offences, cond_of, call_offences, call_of, return_offences, return_of, print_offences}
use Rattle.cj_reader.specs.Instructions.{print_of, load_offences, load_of, store_offences, store_of, fail_of, instr_offences, instr_of}
use Rattle.cj_grammar.proofs.Unoffended.{none_of, none_if, none_missing}
use Rattle.cj_reader.proofs.Fine.{equal, place_within}

-- the places of lines are below the number of lines
abbrev pub Bounded : Scope → ℕ → Type 0
Bounded s count = (n : ℤ) (place : ℕ) → s.line_at n ≡ Some place → place < count

-- the functions that are known are those of the program
abbrev pub Called : Scope → List Function → Type 0
Called s functions = (name : List ℕ) (callee : Callee) → s.function_at name ≡ Some callee → Takes functions callee.function callee.params

register_fine : (s : Scope) (t : Lexeme) → register_offences s t ≡ [] → (register_of s t).0 < length s.registers
register_fine s t h =
    let p : (offends_if (is_long t) t TooMany ≡ []) × (missing (name_place s.registers t.text) t NoRegister ≡ []) = none_of (offends_if (is_long t) t TooMany)
    (missing (name_place s.registers t.text) t NoRegister) h in
    let f : (place : ℕ) × (name_place s.registers t.text ≡ Some place) = none_missing (name_place s.registers t.text) t NoRegister p.1 in
    rw f.1 (place_within (λ other. bytes_eq other t.text) s.registers f.0 f.1)

label_fine : (s : Scope) (count : ℕ) → Bounded s count → (t : Lexeme) → label_offences s t ≡ [] → (label_of s t).0 < count
label_fine s count b t h =
    let p : (offends_if (not (is_line_number t.number)) t Range ≡ [])
    × (missing (s.line_at t.number) t NoLabel ≡ []) = none_of (offends_if (not (is_line_number t.number)) t Range)
    (missing (s.line_at t.number) t NoLabel) h in
    let f : (place : ℕ) × (s.line_at t.number ≡ Some place) = none_missing (s.line_at t.number) t NoLabel p.1 in
    rw f.1 (b t.number f.0 f.1)

target_fine : (s : Scope) (count : ℕ) → Bounded s count → (t : Tree target) → target_offences s t ≡ [] → (target_of s t).0 < count
unfolding target target_offences target_of
target_fine s count b (arrow, number) h = label_fine s count b number.token h

operand_fine : (s : Scope) (t : Tree operand) → operand_offences s t ≡ [] → IsOperandWithin (length s.registers) (operand_of s t)
unfolding operand operand_offences operand_of
operand_fine s (inl name) h = register_fine s name.token h
operand_fine s (inr number) h = tt

binary_fine : (count : ℕ) (mark : Tree binary) (a b : Operand) → IsOperandWithin count a → IsOperandWithin count b → IsExprWithin count (binary_of mark a b)
unfolding binary of_binary binary_of
binary_fine count (inl m) a b p q = (p, q)
binary_fine count (inr (inl m)) a b p q = (p, q)
binary_fine count (inr (inr (inl m))) a b p q = (p, q)
binary_fine count (inr (inr (inr (inl m)))) a b p q = (p, q)
binary_fine count (inr (inr (inr (inr (inl m))))) a b p q = (p, q)
binary_fine count (inr (inr (inr (inr (inr (inl m)))))) a b p q = (p, q)
binary_fine count (inr (inr (inr (inr (inr (inr m)))))) a b p q = (p, q)

expr_fine : (s : Scope) (t : Tree expr) → expr_offences s t ≡ [] → IsExprWithin (length s.registers) (expr_of s t)
unfolding expr expr_offences expr_of
expr_fine s (inl (neg, value)) h = operand_fine s value h
expr_fine s (inr (inl (eqz, value))) h = operand_fine s value h
expr_fine s (inr (inr (value, None))) h = operand_fine s value h
expr_fine s (inr (inr (left, Some (mark, right)))) h =
    let p : (operand_offences s left ≡ []) × (operand_offences s right ≡ []) = none_of (operand_offences s left) (operand_offences s right) h in
    binary_fine (length s.registers) mark (operand_of s left) (operand_of s right) (operand_fine s left p.0) (operand_fine s right p.1)

-- ---- calls

abbrev Next : Type 0
Next = Leaf (Is terminal.Comma) × Tree operand

more_fine : (s : Scope) (more : List Next) → flat_map (λ t. operand_offences s t.1) more ≡ [] →
    All (IsOperandWithin (length s.registers)) (map (λ t. operand_of s t.1) more)
more_fine s [] h = All-nil (IsOperandWithin (length s.registers))
more_fine s (t ∷ more) h =
    let p : (operand_offences s t.1 ≡ [])
    × (flat_map (λ t. operand_offences s t.1) more ≡ []) = none_of (operand_offences s t.1) (flat_map (λ t. operand_offences s t.1) more) h in
    All-cons (IsOperandWithin (length s.registers)) (operand_of s t.1) (map (λ t. operand_of s t.1) more) (operand_fine s t.1 p.0) (more_fine s more p.1)

arguments_fine : (s : Scope) (t : Tree (opt operands)) → arguments_offences s t ≡ [] → All (IsOperandWithin (length s.registers)) (arguments_of s t)
unfolding operands more_operands arguments_offences arguments_of
arguments_fine s None h = All-nil (IsOperandWithin (length s.registers))
arguments_fine s (Some (first, more)) h =
    let p : (operand_offences s first ≡ []) × (flat_map (λ (t : Next). operand_offences s t.1) more ≡ []) = none_of (operand_offences s first)
    (flat_map (λ (t : Next). operand_offences s t.1) more) h in
    All-cons (IsOperandWithin (length s.registers)) (operand_of s first) (map (λ (t : Next). operand_of s t.1) more) (operand_fine s first p.0)
    (more_fine s more p.1)

arguments_counted : (s : Scope) (t : Tree (opt operands)) → length (arguments_of s t) ≡ argument_count t
unfolding operands more_operands arguments_of argument_count
arguments_counted s None = refl
arguments_counted s (Some (first, more)) = ap suc (length-map more (λ (t : Next). operand_of s t.1))

counted_fine : (functions : List Function) (t : Lexeme) (count : ℕ) (o : Option Callee) →
    ((callee : Callee) → o ≡ Some callee → Takes functions callee.function callee.params) → count_offences t count o ≡ [] →
    Takes functions (unwrap_or (option_map (λ callee. callee.function) o) (record { 0 = 0 })) count
counted_fine functions t count None known h = cc
counted_fine functions t count (Some callee) known h =
    let same : callee.params ≡ count = equal callee.params count (not-false (callee.params == count) (none_if (not (callee.params == count)) t Arguments h)) in
    subst (λ (n : ℕ). Takes functions callee.function n) same (known callee refl)

callee_fine : (s : Scope) (functions : List Function) → Called s functions → (t : Lexeme) (count : ℕ) → callee_offences s t count ≡ [] →
    Takes functions (callee_of s t) count
callee_fine s functions known t count h =
    let p : (offends_if (is_long t) t TooMany ≡ []) × (count_offences t count (s.function_at t.text) ≡ []) = none_of (offends_if (is_long t) t TooMany)
    (count_offences t count (s.function_at t.text)) h in
    counted_fine functions t count (s.function_at t.text) (known t.text) p.1

-- ---- instructions

module _ (s : Scope) (functions : List Function) (count : ℕ) (b : Bounded s count) (known : Called s functions) where
  abbrev Fine : Instr → Type 0
  Fine i = IsInstrFine functions (length s.registers) count i

  nop_fine : (t : Tree nop_instr) → nop_offences s t ≡ [] → Fine (nop_of s t)
  unfolding nop_instr nop_offences nop_of
  nop_fine (word, next) h = target_fine s count b next h

  op_fine : (t : Tree op_instr) → op_offences s t ≡ [] → Fine (op_of s t)
  unfolding op_instr op_offences op_of
  op_fine (word, (dest, (equals, (value, next)))) h =
      let p : (register_offences s dest.token ≡ []) × (expr_offences s value ++ target_offences s next ≡ []) = none_of (register_offences s dest.token)
      (expr_offences s value ++ target_offences s next) h in
      let q : (expr_offences s value ≡ []) × (target_offences s next ≡ []) = none_of (expr_offences s value) (target_offences s next) p.1 in
      (register_fine s dest.token p.0, expr_fine s value q.0, target_fine s count b next q.1)

  cond_fine : (t : Tree cond_instr) → cond_offences s t ≡ [] → Fine (cond_of s t)
  unfolding cond_instr cond_offences cond_of
  cond_fine (word, (test, (then_to, (comma, else_to)))) h =
      let p : (operand_offences s test ≡ []) × (target_offences s then_to ++ label_offences s else_to.token ≡ []) = none_of (operand_offences s test)
      (target_offences s then_to ++ label_offences s else_to.token) h in
      let q : (target_offences s then_to ≡ [])
      × (label_offences s else_to.token ≡ []) = none_of (target_offences s then_to) (label_offences s else_to.token) p.1 in
      (operand_fine s test p.0, target_fine s count b then_to q.0, label_fine s count b else_to.token q.1)

  call_fine : (t : Tree call_instr) → call_offences s t ≡ [] → Fine (call_of s t)
  unfolding call_instr call_offences call_of
  call_fine (word, (dest, (equals, (callee, (left, (arguments, (right, next))))))) h =
      let n : ℕ = argument_count arguments in
      let p : (register_offences s dest.token ≡ [])
      × (callee_offences s callee.token n ++ (arguments_offences s arguments ++ target_offences s next) ≡ []) = none_of (register_offences s dest.token)
      (callee_offences s callee.token n ++ (arguments_offences s arguments ++ target_offences s next)) h in
      let q : (callee_offences s callee.token n ≡ [])
      × (arguments_offences s arguments ++ target_offences s next ≡ []) = none_of (callee_offences s callee.token n) (arguments_offences s arguments
      ++ target_offences s next) p.1 in
      let r : (arguments_offences s arguments ≡ []) × (target_offences s next ≡ []) = none_of (arguments_offences s arguments) (target_offences s next) q.1 in
      let takes : Takes functions (callee_of s callee.token) (length (arguments_of s arguments)) = subst
      (λ (m : ℕ). Takes functions (callee_of s callee.token) m) (sym (arguments_counted s arguments)) (callee_fine s functions known callee.token n q.0) in
      (register_fine s dest.token p.0, takes, arguments_fine s arguments r.0, target_fine s count b next r.1)

  return_fine : (t : Tree return_instr) → return_offences s t ≡ [] → Fine (return_of s t)
  unfolding return_instr return_offences return_of
  return_fine (word, value) h = operand_fine s value h

  print_fine : (t : Tree print_instr) → print_offences s t ≡ [] → Fine (print_of s t)
  unfolding print_instr print_offences print_of
  print_fine (word, (value, next)) h =
      let p : (operand_offences s value ≡ []) × (target_offences s next ≡ []) = none_of (operand_offences s value) (target_offences s next) h in
      (operand_fine s value p.0, target_fine s count b next p.1)

  load_fine : (t : Tree load_instr) → load_offences s t ≡ [] → Fine (load_of s t)
  unfolding load_instr load_offences load_of
  load_fine (word, (dest, (equals, (left, (address, (right, next)))))) h =
      let p : (register_offences s dest.token ≡ []) × (operand_offences s address ++ target_offences s next ≡ []) = none_of (register_offences s dest.token)
      (operand_offences s address ++ target_offences s next) h in
      let q : (operand_offences s address ≡ []) × (target_offences s next ≡ []) = none_of (operand_offences s address) (target_offences s next) p.1 in
      (register_fine s dest.token p.0, operand_fine s address q.0, target_fine s count b next q.1)

  store_fine : (t : Tree store_instr) → store_offences s t ≡ [] → Fine (store_of s t)
  unfolding store_instr store_offences store_of
  store_fine (word, (left, (address, (right, (equals, (value, next)))))) h =
      let p : (operand_offences s address ≡ []) × (operand_offences s value ++ target_offences s next ≡ []) = none_of (operand_offences s address)
      (operand_offences s value ++ target_offences s next) h in
      let q : (operand_offences s value ≡ []) × (target_offences s next ≡ []) = none_of (operand_offences s value) (target_offences s next) p.1 in
      (operand_fine s address p.0, operand_fine s value q.0, target_fine s count b next q.1)

  fail_fine : (t : Tree fail_instr) → Fine (fail_of t)
  unfolding fail_instr fail_of
  fail_fine (word, text) = tt

  pub instr_fine : (t : Tree instr) → instr_offences s t ≡ [] → IsInstrFine functions (length s.registers) count (instr_of s t)
  unfolding instr of_instr instr_offences instr_of
  instr_fine (inl t) h = nop_fine t h
  instr_fine (inr (inl t)) h = op_fine t h
  instr_fine (inr (inr (inl t))) h = cond_fine t h
  instr_fine (inr (inr (inr (inl t)))) h = call_fine t h
  instr_fine (inr (inr (inr (inr (inl t))))) h = return_fine t h
  instr_fine (inr (inr (inr (inr (inr (inl t)))))) h = print_fine t h
  instr_fine (inr (inr (inr (inr (inr (inr (inl t))))))) h = load_fine t h
  instr_fine (inr (inr (inr (inr (inr (inr (inr (inl t)))))))) h = store_fine t h
  instr_fine (inr (inr (inr (inr (inr (inr (inr (inr t)))))))) h = fail_fine t
