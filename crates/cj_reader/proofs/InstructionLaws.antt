-- What the readers of instructions give on the tokens of a tree.
use Rattle.std.proofs.Common.{◌≡◌, inl, inr, ℕ, suc, ◌+◌, List, [], ◌∷◌, ◌++◌, length, Ok, Err, Bool, true, false, cond, refl, ap, sym, ◌∙◌, append_assoc}
use Rattle.std.proofs.Common.{arith, zero-add}
use Rattle.std.specs.Prelude.{Option, Some, None, not, nat_lt, ◌==◌, map, flat_map, unwrap_or, option_map}
use Rattle.cj_ir.specs.declared.language.Operand.{Operand}
use Rattle.cj_ir.specs.declared.language.Instr.TheVariants as instrs
use Rattle.cj_tokens.specs.Lexemes.{Lexeme, Is, number_of}
use Rattle.cj_tokens.specs.Passing.{front, behind}
use Rattle.cj_tokens.specs.declared.terminal.Terminal.TheVariants as terminal
use Rattle.cj_tokens.specs.declared.refusal.Kind.TheVariants.{TooMany, Arguments}
use Rattle.cj_tokens.specs.declared.refusal.Refused.{Refused}
use Rattle.cj_grammar.specs.Grammar.{Leaf, Tree, leaves, opt}
use Rattle.cj_grammar.specs.OneAhead.{◌>>=◌}
use Rattle.cj_grammar.specs.Rules.{operand, expr, target, operands, more_operands, nop_instr, op_instr, cond_instr, call_instr, return_instr, print_instr}
use Rattle.cj_grammar.specs.Rules.{load_instr, store_instr, fail_instr, instr}
use Rattle.cj_grammar.specs.Alternatives.{of_instr}
use Rattle.cj_grammar.specs.Reading.{offends_if, each_offends}
use Rattle.cj_grammar.specs.Readers.{each_at, reads}
use Rattle.cj_grammar.proofs.ReadsLaws.{reads_then, reads_last, each_reads}
use Rattle.cj_reader.specs.declared.scope.Callee.{Callee}
use Rattle.cj_reader.specs.declared.calls.Called.{Called}
use Rattle.cj_reader.specs.Scopes.{Scope}
use Rattle.cj_reader.specs.Operands.{is_long, register_offences, register_of, label_offences, label_of, target_offences, target_of, operand_offences}
use Rattle.cj_reader.specs.Operands.{operand_of, expr_offences, expr_of}
use Rattle.cj_reader.specs.Instructions.{arguments_offences, arguments_of, argument_count, count_offences, callee_offences, callee_of, nop_offences, nop_of}
use Rattle.cj_reader.specs.Instructions.{op_offences, op_of, cond_offences, cond_of, call_offences, call_of, return_offences, return_of, print_offences}
use Rattle.cj_reader.specs.Instructions.{print_of, load_offences, load_of, store_offences, store_of, fail_offences, fail_of, instr_offences, instr_of}
use Rattle.cj_reader.specs.Prescans.{count_at}
use Rattle.cj_reader.specs.Reading.{refuse_if, target_at, dest_at, address_at, next_operand_at, arguments_at, called_with, callee_at, called_at, nop_at, op_at}
use Rattle.cj_reader.specs.Reading.{cond_at, call_at, return_at, print_at, load_at, store_at, text_at, fail_at, instr_at}
use Rattle.cj_reader.proofs.Decided.{decides, decided_then, decided_last, refused_decides}
use Rattle.cj_reader.proofs.OperandLaws.{leaf_number, register_decides, label_decides, target_reads, operand_reads, expr_reads}

-- ---- calls

pub each_alike : {T X : Type 0} (offends : T → List Refused) (means : T → X) (earlier : List X) (items : List T) →
    each_offends (λ earlier t. offends t) means earlier items ≡ flat_map offends items
each_alike offends means earlier [] = refl
each_alike offends means earlier (t ∷ items) = ap (λ es. offends t ++ es) (each_alike offends means (earlier ++ means t ∷ []) items)

abbrev Next : Type 0
Next = Leaf (Is terminal.Comma) × Tree operand

abbrev spelled : Next → List Lexeme
spelled t = t.0.token ∷ leaves operand t.1

next_reads : (s : Scope) (earlier : List Operand) (items : List Next) (ts : List Lexeme) →
    each_at (next_operand_at s) (length items) earlier (flat_map spelled items ++ ts)
    ≡ reads (flat_map (λ t. operand_offences s t.1) items) (earlier ++ map (λ t. operand_of s t.1) items) ts
unfolding behind
next_reads s earlier items ts =
    let e : each_offends (λ earlier t. operand_offences s t.1) (λ t. operand_of s t.1) earlier items
    ≡ flat_map (λ t. operand_offences s t.1) items = each_alike (λ t. operand_offences s t.1) (λ t. operand_of s t.1) earlier items in
    rw (← e) (each_reads (next_operand_at s) spelled (λ earlier t. operand_offences s t.1) (λ t. operand_of s t.1) earlier items ts
    (λ earlier t us. operand_reads s t.1 us))

pub arguments_reads : (s : Scope) (t : Tree (opt operands)) (ts : List Lexeme) → arguments_at s (argument_count t) (leaves (opt operands) t ++ ts)
    ≡ reads (arguments_offences s t) (arguments_of s t) ts
unfolding operands more_operands arguments_offences arguments_of argument_count
arguments_reads s None ts = refl
arguments_reads s (Some (first, more)) ts =
    let us : List Lexeme = flat_map spelled more ++ ts in
    let regroup : (leaves operand first ++ flat_map spelled more) ++ ts ≡ leaves operand first
    ++ us = append_assoc (leaves operand first) (flat_map spelled more) ts in
    rw (regroup, operand_reads s first us)
    (reads_then (operand_offences s first) (flat_map (λ t. operand_offences s t.1) more) (operand_of s first) _ us ts _
    (next_reads s (operand_of s first ∷ []) more ts))

count_operand : (t : Tree operand) (ts : List Lexeme) → count_at (leaves operand t ++ ts) ≡ suc (count_at ts)
unfolding operand count_at
count_operand (inl name) ts = rw (leaf_number name) refl
count_operand (inr number) ts = rw (leaf_number number) refl

count_next : (items : List Next) (ts : List Lexeme) → count_at (flat_map spelled items ++ ts) ≡ length items + count_at ts
unfolding count_at
count_next [] ts = sym (zero-add (count_at ts))
count_next (t ∷ items) ts =
    let us : List Lexeme = flat_map spelled items ++ ts in
    let regroup : (leaves operand t.1 ++ flat_map spelled items) ++ ts ≡ leaves operand t.1
    ++ us = append_assoc (leaves operand t.1) (flat_map spelled items) ts in
    let ih : count_at us ≡ length items + count_at ts = count_next items ts in
    rw (leaf_number t.0, regroup, count_operand t.1 us, ih) (omega arith)

count_arguments : (t : Tree (opt operands)) (close : Leaf (Is terminal.CloseParen)) (ts : List Lexeme) → count_at (leaves (opt operands) t ++ close.token ∷ ts)
    ≡ argument_count t
unfolding operands more_operands argument_count count_at
count_arguments None close ts = rw (leaf_number close) refl
count_arguments (Some (first, more)) close ts =
    let us : List Lexeme = flat_map spelled more ++ close.token ∷ ts in
    let regroup : (leaves operand first ++ flat_map spelled more) ++ close.token ∷ ts ≡ leaves operand first
    ++ us = append_assoc (leaves operand first) (flat_map spelled more) (close.token ∷ ts) in
    let c : count_at (close.token ∷ ts) ≡ 0 = rw (leaf_number close) refl in
    rw (regroup, count_operand first us, count_next more (close.token ∷ ts), c) (omega arith)

called_decides : (t : Lexeme) (count : ℕ) (o : Option Callee) →
    called_with t count o ≡ decides (count_offences t count o) (unwrap_or (option_map (λ callee. callee.function) o) (record { 0 = 0 }))
called_decides t count None = refl
called_decides t count (Some callee) = go (callee.params == count)
  where
    go : (b : Bool) → cond b (Ok callee.function) (Err (record { line = t.line; kind = Arguments })) ≡ decides (offends_if (not b) t Arguments) callee.function
    go true = refl
    go false = refl

pub callee_decides : (s : Scope) (t : Lexeme) (count : ℕ) → callee_at s t count ≡ decides (callee_offences s t count) (callee_of s t)
unfolding callee_at
callee_decides s t count =
    refused_decides (is_long t) t TooMany (count_offences t count (s.function_at t.text)) (callee_of s t) _ (called_decides t count (s.function_at t.text))

called_reads : (s : Scope) (callee : Leaf (Is terminal.Name)) (left : Leaf (Is terminal.OpenParen)) (arguments : Tree (opt operands))
    (right : Leaf (Is terminal.CloseParen)) (us : List Lexeme) →
    called_at s (callee.token ∷ left.token ∷ (leaves (opt operands) arguments ++ right.token ∷ us))
    ≡ reads (callee_offences s callee.token (argument_count arguments) ++ arguments_offences s arguments)
    (record { function = callee_of s callee.token; args = arguments_of s arguments }) us
unfolding called_at front behind
called_reads s callee left arguments right us =
    let n : ℕ = argument_count arguments in
    let vs : List Lexeme = right.token ∷ us in
    let called : Called = record { function = callee_of s callee.token; args = arguments_of s arguments } in
    rw (count_arguments arguments right us, callee_decides s callee.token n)
    (decided_then (callee_offences s callee.token n) (arguments_offences s arguments) (callee_of s callee.token) called us _
    (rw (arguments_reads s arguments vs) (reads_last (arguments_offences s arguments) (arguments_of s arguments) called vs us _ refl)))

-- ---- instructions

-- a register and the `=` behind it
dest_reads : (s : Scope) (dest : Leaf (Is terminal.Name)) (equals : Leaf (Is terminal.Equals)) (us : List Lexeme) →
    dest_at s (dest.token ∷ equals.token ∷ us) ≡ reads (register_offences s dest.token) (register_of s dest.token) us
unfolding dest_at front behind
dest_reads s dest equals us =
    rw (register_decides s dest.token) (decided_last (register_offences s dest.token) (register_of s dest.token) _ us _ refl)

-- an operand in brackets
address_reads : (s : Scope) (left : Leaf (Is terminal.OpenBracket)) (address : Tree operand) (right : Leaf (Is terminal.CloseBracket)) (us : List Lexeme) →
    address_at s (left.token ∷ (leaves operand address ++ right.token ∷ us)) ≡ reads (operand_offences s address) (operand_of s address) us
unfolding address_at behind
address_reads s left address right us =
    let vs : List Lexeme = right.token ∷ us in
    rw (operand_reads s address vs) (reads_last (operand_offences s address) (operand_of s address) _ vs us _ refl)

nop_reads : (s : Scope) (t : Tree nop_instr) (ts : List Lexeme) → nop_at s (behind (leaves nop_instr t ++ ts)) ≡ reads (nop_offences s t) (nop_of s t) ts
unfolding nop_instr nop_at nop_offences nop_of behind
nop_reads s (word, next) ts = rw (target_reads s next ts) (reads_last (target_offences s next) (target_of s next) _ ts ts _ refl)

op_reads : (s : Scope) (t : Tree op_instr) (ts : List Lexeme) → op_at s (behind (leaves op_instr t ++ ts)) ≡ reads (op_offences s t) (op_of s t) ts
unfolding op_instr op_at op_offences op_of behind
op_reads s (word, (dest, (equals, (value, next)))) ts =
    let us : List Lexeme = leaves target next ++ ts in
    let vs : List Lexeme = leaves expr value ++ us in
    let regroup : (leaves expr value ++ leaves target next) ++ ts ≡ vs = append_assoc (leaves expr value) (leaves target next) ts in
    rw (regroup, dest_reads s dest equals vs)
    (reads_then (register_offences s dest.token) (expr_offences s value ++ target_offences s next) (register_of s dest.token) _ vs ts _
    (rw (expr_reads s value next ts) (reads_then (expr_offences s value) (target_offences s next) (expr_of s value) _ us ts _
    (rw (target_reads s next ts) (reads_last (target_offences s next) (target_of s next) _ ts ts _ refl)))))

-- the second number of a cond, with the comma before it
second_reads : (s : Scope) (comma : Leaf (Is terminal.Comma)) (number : Leaf (Is terminal.Number)) (ts : List Lexeme) →
    target_at s (comma.token ∷ number.token ∷ ts) ≡ reads (label_offences s number.token) (label_of s number.token) ts
unfolding target_at front behind
second_reads s comma number ts =
    rw (label_decides s number.token) (decided_last (label_offences s number.token) (label_of s number.token) _ ts _ refl)

cond_reads : (s : Scope) (t : Tree cond_instr) (ts : List Lexeme) → cond_at s (behind (leaves cond_instr t ++ ts)) ≡ reads (cond_offences s t) (cond_of s t) ts
unfolding cond_instr cond_at cond_offences cond_of behind
cond_reads s (word, (test, (then_to, (comma, else_to)))) ts =
    let vs : List Lexeme = comma.token ∷ else_to.token ∷ ts in
    let us : List Lexeme = leaves target then_to ++ vs in
    let regroup : (leaves operand test ++ (leaves target then_to ++ (comma.token ∷ else_to.token ∷ []))) ++ ts ≡ leaves operand test ++ us =
    append_assoc (leaves operand test) (leaves target then_to ++ (comma.token ∷ else_to.token ∷ [])) ts
    ∙ ap (λ z. leaves operand test ++ z) (append_assoc (leaves target then_to) (comma.token ∷ else_to.token ∷ []) ts) in
    rw (regroup, operand_reads s test us)
    (reads_then (operand_offences s test) (target_offences s then_to ++ label_offences s else_to.token) (operand_of s test) _ us ts _
    (rw (target_reads s then_to vs) (reads_then (target_offences s then_to) (label_offences s else_to.token) (target_of s then_to) _ vs ts _
    (rw (second_reads s comma else_to ts) (reads_last (label_offences s else_to.token) (label_of s else_to.token) _ ts ts _ refl)))))

call_reads : (s : Scope) (t : Tree call_instr) (ts : List Lexeme) → call_at s (behind (leaves call_instr t ++ ts)) ≡ reads (call_offences s t) (call_of s t) ts
unfolding call_instr call_at call_offences call_of behind
call_reads s (word, (dest, (equals, (callee, (left, (arguments, (right, next))))))) ts =
    let us : List Lexeme = leaves target next ++ ts in
    let vs : List Lexeme = right.token ∷ us in
    let ws : List Lexeme = callee.token ∷ left.token ∷ (leaves (opt operands) arguments ++ vs) in
    let cs : List Refused = callee_offences s callee.token (argument_count arguments) in
    let regroup : (leaves (opt operands) arguments ++ (right.token ∷ leaves target next)) ++ ts ≡ leaves (opt operands) arguments
    ++ vs = append_assoc (leaves (opt operands) arguments) (right.token ∷ leaves target next) ts in
    let parts : (cs ++ arguments_offences s arguments) ++ target_offences s next ≡ cs
    ++ (arguments_offences s arguments ++ target_offences s next) = append_assoc cs (arguments_offences s arguments) (target_offences s next) in
    let called : Called = record { function = callee_of s callee.token; args = arguments_of s arguments } in
    rw (regroup, dest_reads s dest equals ws)
    (reads_then (register_offences s dest.token) (cs ++ (arguments_offences s arguments ++ target_offences s next)) (register_of s dest.token) _ ws ts _
    (rw (called_reads s callee left arguments right us, ← parts) (reads_then (cs ++ arguments_offences s arguments) (target_offences s next) called _ us ts _
    (rw (target_reads s next ts) (reads_last (target_offences s next) (target_of s next) _ ts ts _ refl)))))

return_reads : (s : Scope) (t : Tree return_instr) (ts : List Lexeme) → return_at s (behind (leaves return_instr t ++ ts))
    ≡ reads (return_offences s t) (return_of s t) ts
unfolding return_instr return_at return_offences return_of behind
return_reads s (word, value) ts = rw (operand_reads s value ts) (reads_last (operand_offences s value) (operand_of s value) _ ts ts _ refl)

print_reads : (s : Scope) (t : Tree print_instr) (ts : List Lexeme) → print_at s (behind (leaves print_instr t ++ ts))
    ≡ reads (print_offences s t) (print_of s t) ts
unfolding print_instr print_at print_offences print_of behind
print_reads s (word, (value, next)) ts =
    let us : List Lexeme = leaves target next ++ ts in
    let regroup : (leaves operand value ++ leaves target next) ++ ts ≡ leaves operand value
    ++ us = append_assoc (leaves operand value) (leaves target next) ts in
    rw (regroup, operand_reads s value us) (reads_then (operand_offences s value) (target_offences s next) (operand_of s value) _ us ts _
    (rw (target_reads s next ts) (reads_last (target_offences s next) (target_of s next) _ ts ts _ refl)))

load_reads : (s : Scope) (t : Tree load_instr) (ts : List Lexeme) → load_at s (behind (leaves load_instr t ++ ts)) ≡ reads (load_offences s t) (load_of s t) ts
unfolding load_instr load_at load_offences load_of behind
load_reads s (word, (dest, (equals, (left, (address, (right, next)))))) ts =
    let us : List Lexeme = leaves target next ++ ts in
    let vs : List Lexeme = right.token ∷ us in
    let ws : List Lexeme = left.token ∷ (leaves operand address ++ vs) in
    let regroup : (leaves operand address ++ (right.token ∷ leaves target next)) ++ ts ≡ leaves operand address
    ++ vs = append_assoc (leaves operand address) (right.token ∷ leaves target next) ts in
    rw (regroup, dest_reads s dest equals ws)
    (reads_then (register_offences s dest.token) (operand_offences s address ++ target_offences s next) (register_of s dest.token) _ ws ts _
    (rw (address_reads s left address right us) (reads_then (operand_offences s address) (target_offences s next) (operand_of s address) _ us ts _
    (rw (target_reads s next ts) (reads_last (target_offences s next) (target_of s next) _ ts ts _ refl)))))

store_reads : (s : Scope) (t : Tree store_instr) (ts : List Lexeme) → store_at s (behind (leaves store_instr t ++ ts))
    ≡ reads (store_offences s t) (store_of s t) ts
unfolding store_instr store_at store_offences store_of behind
store_reads s (word, (left, (address, (right, (equals, (value, next)))))) ts =
    let us : List Lexeme = leaves target next ++ ts in
    let ws : List Lexeme = leaves operand value ++ us in
    let vs : List Lexeme = equals.token ∷ ws in
    let inner : (leaves operand value ++ leaves target next) ++ ts ≡ ws = append_assoc (leaves operand value) (leaves target next) ts in
    let regroup : (leaves operand address ++ (right.token ∷ equals.token ∷ (leaves operand value ++ leaves target next))) ++ ts ≡ leaves operand address
    ++ (right.token ∷ vs) =
    append_assoc (leaves operand address) (right.token ∷ equals.token ∷ (leaves operand value ++ leaves target next)) ts
    ∙ ap (λ z. leaves operand address ++ (right.token ∷ equals.token ∷ z)) inner in
    rw (regroup, address_reads s left address right vs)
    (reads_then (operand_offences s address) (operand_offences s value ++ target_offences s next) (operand_of s address) _ vs ts _
    (rw (operand_reads s value us) (reads_then (operand_offences s value) (target_offences s next) (operand_of s value) _ us ts _
    (rw (target_reads s next ts) (reads_last (target_offences s next) (target_of s next) _ ts ts _ refl)))))

fail_reads : (t : Tree fail_instr) (ts : List Lexeme) → fail_at (behind (leaves fail_instr t ++ ts)) ≡ reads (fail_offences t) (fail_of t) ts
unfolding fail_instr fail_at fail_offences fail_of text_at front behind
fail_reads (word, text) ts = rw text.is (go (nat_lt 64 (length text.token.text)))
  where
    go : (b : Bool) → (refuse_if b text.token TooMany >>= λ u. Ok (instrs.Fail text.token.text, ts))
        ≡ reads (offends_if b text.token TooMany) (instrs.Fail text.token.text) ts
    go true = refl
    go false = refl

nop_word : (t : Tree nop_instr) (ts : List Lexeme) → number_of (front (leaves nop_instr t ++ ts)).terminal ≡ 7
unfolding nop_instr front
nop_word (word, t) ts = leaf_number word

op_word : (t : Tree op_instr) (ts : List Lexeme) → number_of (front (leaves op_instr t ++ ts)).terminal ≡ 8
unfolding op_instr front
op_word (word, t) ts = leaf_number word

cond_word : (t : Tree cond_instr) (ts : List Lexeme) → number_of (front (leaves cond_instr t ++ ts)).terminal ≡ 9
unfolding cond_instr front
cond_word (word, t) ts = leaf_number word

call_word : (t : Tree call_instr) (ts : List Lexeme) → number_of (front (leaves call_instr t ++ ts)).terminal ≡ 10
unfolding call_instr front
call_word (word, t) ts = leaf_number word

return_word : (t : Tree return_instr) (ts : List Lexeme) → number_of (front (leaves return_instr t ++ ts)).terminal ≡ 11
unfolding return_instr front
return_word (word, t) ts = leaf_number word

print_word : (t : Tree print_instr) (ts : List Lexeme) → number_of (front (leaves print_instr t ++ ts)).terminal ≡ 12
unfolding print_instr front
print_word (word, t) ts = leaf_number word

load_word : (t : Tree load_instr) (ts : List Lexeme) → number_of (front (leaves load_instr t ++ ts)).terminal ≡ 13
unfolding load_instr front
load_word (word, t) ts = leaf_number word

store_word : (t : Tree store_instr) (ts : List Lexeme) → number_of (front (leaves store_instr t ++ ts)).terminal ≡ 14
unfolding store_instr front
store_word (word, t) ts = leaf_number word

fail_word : (t : Tree fail_instr) (ts : List Lexeme) → number_of (front (leaves fail_instr t ++ ts)).terminal ≡ 15
unfolding fail_instr front
fail_word (word, t) ts = leaf_number word

pub instr_reads : (s : Scope) (t : Tree instr) (ts : List Lexeme) → instr_at s (leaves instr t ++ ts) ≡ reads (instr_offences s t) (instr_of s t) ts
unfolding instr of_instr instr_at instr_offences instr_of
instr_reads s (inl t) ts = rw (nop_word t ts) (nop_reads s t ts)
instr_reads s (inr (inl t)) ts = rw (op_word t ts) (op_reads s t ts)
instr_reads s (inr (inr (inl t))) ts = rw (cond_word t ts) (cond_reads s t ts)
instr_reads s (inr (inr (inr (inl t)))) ts = rw (call_word t ts) (call_reads s t ts)
instr_reads s (inr (inr (inr (inr (inl t))))) ts = rw (return_word t ts) (return_reads s t ts)
instr_reads s (inr (inr (inr (inr (inr (inl t)))))) ts = rw (print_word t ts) (print_reads s t ts)
instr_reads s (inr (inr (inr (inr (inr (inr (inl t))))))) ts = rw (load_word t ts) (load_reads s t ts)
instr_reads s (inr (inr (inr (inr (inr (inr (inr (inl t)))))))) ts = rw (store_word t ts) (store_reads s t ts)
instr_reads s (inr (inr (inr (inr (inr (inr (inr (inr t)))))))) ts = rw (fail_word t ts) (fail_reads t ts)
