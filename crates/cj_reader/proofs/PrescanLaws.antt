-- What is looked up ahead, on the tokens of a tree.
use Rattle.std.proofs.Common.{◌≡◌, ◌+◌, List, [], ◌∷◌, ◌++◌, length, true, false, refl, sym, append_assoc, arith, zero-add}
use Rattle.std.specs.Prelude.{Some, None, not, map, flat_map}
use Rattle.std.proofs.lemmas.List.{length-map}
use Rattle.cj_tokens.specs.Lexemes.{Lexeme, Is, is_terminal}
use Rattle.cj_tokens.specs.Passing.{front}
use Rattle.cj_tokens.specs.declared.terminal.Terminal.TheVariants as terminal
use Rattle.cj_grammar.specs.Grammar.{Rule, Leaf, Tree, leaves, opt, seq}
use Rattle.cj_grammar.specs.Contents.{lacks}
use Rattle.cj_grammar.specs.Rules.{one, operand, more_operands, operands, more_names, names, binary, expr, target, nop_instr, op_instr, cond_instr, call_instr}
use Rattle.cj_grammar.specs.Rules.{return_instr, print_instr, load_instr, store_instr, fail_instr, instr, line, lines}
use Rattle.cj_grammar.proofs.ContentsLaws.{only_its_own}
use Rattle.cj_grammar.proofs.Signs.{and_true, not_true}
use Rattle.cj_reader.specs.Functions.{name_tokens, line_number, numbers_of}
use Rattle.cj_reader.specs.Prescans.{count_at, numbers_at}
use Rattle.cj_reader.proofs.OperandLaws.{leaf_number}

-- ---- counts of names

abbrev pub Next : Type 0
Next = Leaf (Is terminal.Comma) × Leaf (Is terminal.Name)

abbrev pub spelled : Next → List Lexeme
spelled t = t.0.token ∷ t.1.token ∷ []

count_more : (items : List Next) (ts : List Lexeme) → count_at (flat_map spelled items ++ ts) ≡ length items + count_at ts
unfolding count_at
count_more [] ts = sym (zero-add (count_at ts))
count_more (t ∷ items) ts = rw (leaf_number t.0, leaf_number t.1, count_more items ts) (omega arith)

pub count_names : (t : Tree (opt names)) (ts : List Lexeme) → count_at ts ≡ 0 → count_at (leaves (opt names) t ++ ts) ≡ length (name_tokens t)
unfolding names more_names name_tokens count_at
count_names None ts h = h
count_names (Some (first, more)) ts h =
    let n : length (map (λ (t : Next). t.1.token) more) ≡ length more = length-map more (λ (t : Next). t.1.token) in
    rw (leaf_number first, count_more more ts, h, n) (omega arith)

-- what stands behind the parameters, and behind the other registers, ends a list
pub close_counts : (close : Leaf (Is terminal.CloseParen)) (ts : List Lexeme) → count_at (close.token ∷ ts) ≡ 0
unfolding count_at
close_counts close ts = rw (leaf_number close) refl

abbrev pub Others : Rule
Others = opt (seq (one terminal.Semicolon) names)

pub others_count : (t : Tree Others) (close : Leaf (Is terminal.CloseParen)) (ts : List Lexeme) → count_at (leaves Others t ++ close.token ∷ ts) ≡ 0
unfolding count_at
others_count None close ts = rw (leaf_number close) refl
others_count (Some (semicolon, t)) close ts = rw (leaf_number semicolon) refl

-- ---- numbers of lines

next_lacks : (xs ts : List Lexeme) → lacks (Is terminal.Colon) xs ≡ true → is_terminal terminal.Colon (front ts) ≡ false →
    is_terminal terminal.Colon (front (xs ++ ts)) ≡ false
unfolding front
next_lacks [] ts h k = k
next_lacks (x ∷ xs) ts h k = not_true (is_terminal terminal.Colon x) (and_true (not (is_terminal terminal.Colon x)) (lacks (Is terminal.Colon) xs) h).0

numbers_pass : (xs ts : List Lexeme) → lacks (Is terminal.CloseBrace) xs ≡ true → lacks (Is terminal.End) xs ≡ true → lacks (Is terminal.Colon) xs ≡ true →
    is_terminal terminal.Colon (front ts) ≡ false → numbers_at (xs ++ ts) ≡ numbers_at ts
unfolding numbers_at
numbers_pass [] ts b e c k = refl
numbers_pass (x ∷ xs) ts b e c k =
    let p : (not (is_terminal terminal.CloseBrace x) ≡ true) × (lacks (Is terminal.CloseBrace) xs ≡ true) = and_true (not (is_terminal terminal.CloseBrace x))
    (lacks (Is terminal.CloseBrace) xs) b in
    let q : (not (is_terminal terminal.End x) ≡ true)
    × (lacks (Is terminal.End) xs ≡ true) = and_true (not (is_terminal terminal.End x)) (lacks (Is terminal.End) xs) e in
    let r : (not (is_terminal terminal.Colon x) ≡ true)
    × (lacks (Is terminal.Colon) xs ≡ true) = and_true (not (is_terminal terminal.Colon x)) (lacks (Is terminal.Colon) xs) c in
    rw (not_true (is_terminal terminal.CloseBrace x) p.0, not_true (is_terminal terminal.End x) q.0, next_lacks xs ts r.1 k) (numbers_pass xs ts p.1 q.1 r.1 k)

instr_lacks : (i : Tree instr) → (lacks (Is terminal.CloseBrace) (leaves instr i) ≡ true) × (lacks (Is terminal.End) (leaves instr i) ≡ true)
    × (lacks (Is terminal.Colon) (leaves instr i) ≡ true)
unfolding operand more_operands operands binary expr target nop_instr op_instr cond_instr call_instr return_instr print_instr load_instr store_instr fail_instr
    instr
instr_lacks i = (only_its_own instr (Is terminal.CloseBrace) i refl, only_its_own instr (Is terminal.End) i refl, only_its_own instr (Is terminal.Colon) i refl)

no_colon : (t : List (Tree line)) (close : Leaf (Is terminal.CloseBrace)) (ts : List Lexeme) →
    is_terminal terminal.Colon (front (flat_map (leaves line) t ++ close.token ∷ ts)) ≡ false
unfolding line front
no_colon [] close ts = rw (leaf_number close) refl
no_colon ((number, rest) ∷ more) close ts = rw (leaf_number number) refl

numbers_go : (t : List (Tree line)) (close : Leaf (Is terminal.CloseBrace)) (ts : List Lexeme) → numbers_at (flat_map (leaves line) t ++ close.token ∷ ts)
    ≡ map (λ t. (line_number t).number) t
unfolding line line_number numbers_at front
numbers_go [] close ts = rw (leaf_number close) refl
numbers_go ((number, (colon, i)) ∷ more) close ts =
    let us : List Lexeme = flat_map (leaves line) more ++ close.token ∷ ts in
    let regroup : (leaves instr i ++ flat_map (leaves line) more) ++ close.token ∷ ts ≡ leaves instr i
    ++ us = append_assoc (leaves instr i) (flat_map (leaves line) more) (close.token ∷ ts) in
    let l : (lacks (Is terminal.CloseBrace) (leaves instr i) ≡ true) × (lacks (Is terminal.End) (leaves instr i) ≡ true)
    × (lacks (Is terminal.Colon) (leaves instr i) ≡ true) = instr_lacks i in
    let o : is_terminal terminal.Colon (front us) ≡ false = no_colon more close ts in
    let n : is_terminal terminal.Colon (front (leaves instr i ++ us)) ≡ false = next_lacks (leaves instr i) us l.2 o in
    let p : numbers_at (leaves instr i ++ us) ≡ numbers_at us = numbers_pass (leaves instr i) us l.0 l.1 l.2 o in
    let ih : numbers_at us ≡ map (λ t. (line_number t).number) more = numbers_go more close ts in
    rw (leaf_number number, leaf_number colon, regroup, n, p, ih) refl

pub numbers_are : (t : Tree lines) (close : Leaf (Is terminal.CloseBrace)) (ts : List Lexeme) → numbers_at (leaves lines t ++ close.token ∷ ts) ≡ numbers_of t
unfolding lines numbers_of
numbers_are t close ts = numbers_go t close ts
