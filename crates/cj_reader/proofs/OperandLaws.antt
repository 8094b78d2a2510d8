-- What the readers of operands, expressions and targets give on the tokens of a tree.
use Rattle.std.proofs.Common.{◌≡◌, List, [], ◌++◌, Ok, true, false, ◌⊎◌, inl, inr, refl, ap, ◌∙◌, append_assoc}
use Rattle.std.specs.Prelude.{Some, None, not, nat_eq}
use Rattle.std.proofs.lemmas.Bool.{eqb-true}
use Rattle.cj_ir.specs.declared.language.Operand.{Operand}
use Rattle.cj_ir.specs.declared.language.Reg.{Reg}
use Rattle.cj_ir.specs.declared.language.Label.{Label}
use Rattle.cj_tokens.specs.Lexemes.{Lexeme, Is, number_of, is_terminal}
use Rattle.cj_tokens.specs.Passing.{front, behind}
use Rattle.cj_tokens.specs.declared.terminal.Terminal.{Terminal}
use Rattle.cj_tokens.specs.declared.terminal.Terminal.TheVariants as terminal
use Rattle.cj_tokens.specs.declared.refusal.Kind.TheVariants.{TooMany, Range, NoRegister, NoLabel}
use Rattle.cj_grammar.specs.Grammar.{Leaf, Tree, leaves}
use Rattle.cj_grammar.specs.OneAhead.{◌>>=◌}
use Rattle.cj_grammar.specs.Rules.{operand, binary, expr, target}
use Rattle.cj_grammar.specs.Alternatives.{of_binary}
use Rattle.cj_grammar.specs.Reading.{missing}
use Rattle.cj_grammar.specs.Readers.{reads}
use Rattle.cj_grammar.proofs.ReadsLaws.{reads_then, reads_last}
use Rattle.cj_reader.specs.declared.operators.Operator.TheVariants as operator
use Rattle.cj_reader.specs.Scopes.{Scope, name_place}
use Rattle.cj_reader.specs.Operands.{is_long, is_line_number, register_offences, register_of, label_offences, label_of, target_offences, target_of}
use Rattle.cj_reader.specs.Operands.{operand_offences, operand_of, binary_of, expr_offences, expr_of}
use Rattle.cj_reader.specs.Reading.{register_at, label_at, target_at, operand_at, operator_of, rest_at, expr_at}
use Rattle.cj_reader.proofs.Decided.{decides, decided_last, refused_decides, found_decides}

-- a leaf's terminal, by number
pub leaf_number : {k : Terminal} (t : Leaf (Is k)) → number_of t.token.terminal ≡ number_of k
leaf_number {k = k} t = eqb-true (number_of t.token.terminal) (number_of k) t.is

pub register_decides : (s : Scope) (t : Lexeme) → register_at s t ≡ decides (register_offences s t) (register_of s t)
unfolding register_at
register_decides s t =
    refused_decides (is_long t) t TooMany (missing (name_place s.registers t.text) t NoRegister) (register_of s t) _
    (found_decides (name_place s.registers t.text) 0 t NoRegister (λ place. let r : Reg = record { 0 = place } in r))

pub label_decides : (s : Scope) (t : Lexeme) → label_at s t ≡ decides (label_offences s t) (label_of s t)
unfolding label_at
label_decides s t =
    refused_decides (not (is_line_number t.number)) t Range (missing (s.line_at t.number) t NoLabel) (label_of s t) _
    (found_decides (s.line_at t.number) 0 t NoLabel (λ place. let l : Label = record { 0 = place } in l))

pub target_reads : (s : Scope) (t : Tree target) (ts : List Lexeme) → target_at s (leaves target t ++ ts) ≡ reads (target_offences s t) (target_of s t) ts
unfolding target target_at target_offences target_of front behind
target_reads s (arrow, number) ts =
    rw (label_decides s number.token) (decided_last (label_offences s number.token) (label_of s number.token) _ ts _ refl)

pub operand_reads : (s : Scope) (t : Tree operand) (ts : List Lexeme) → operand_at s (leaves operand t ++ ts) ≡ reads (operand_offences s t) (operand_of s t) ts
unfolding operand operand_at operand_offences operand_of front behind
operand_reads s (inl name) ts =
    rw (leaf_number name, register_decides s name.token) (decided_last (register_offences s name.token) (register_of s name.token) _ ts _ refl)
operand_reads s (inr number) ts = rw (leaf_number number) refl

-- an operand begins with a name or a number
pub operand_number : (t : Tree operand) (ts : List Lexeme) → (number_of (front (leaves operand t ++ ts)).terminal ≡ 3)
    ⊎ (number_of (front (leaves operand t ++ ts)).terminal ≡ 4)
unfolding operand front
operand_number (inl name) ts = inl (leaf_number name)
operand_number (inr number) ts = inr (leaf_number number)

no_word : (t : Tree operand) (ts : List Lexeme) → (is_terminal terminal.Neg (front (leaves operand t ++ ts)) ≡ false)
    × (is_terminal terminal.Eqz (front (leaves operand t ++ ts)) ≡ false)
no_word t ts = elim (operand_number t ts) [ inl e ↦ rw e (refl, refl) | inr e ↦ rw e (refl, refl) ]

-- which operator a mark is
is_plus : (k : Terminal) → nat_eq (number_of k) 48 ≡ true → operator_of k ≡ Some operator.Add
unfolding operator_of
is_plus terminal.Plus h = refl
is_plus _ h = absurd (let d : false ≡ true = h in cc)

is_minus : (k : Terminal) → nat_eq (number_of k) 49 ≡ true → operator_of k ≡ Some operator.Sub
unfolding operator_of
is_minus terminal.Minus h = refl
is_minus _ h = absurd (let d : false ≡ true = h in cc)

is_star : (k : Terminal) → nat_eq (number_of k) 50 ≡ true → operator_of k ≡ Some operator.Mul
unfolding operator_of
is_star terminal.Star h = refl
is_star _ h = absurd (let d : false ≡ true = h in cc)

is_slash : (k : Terminal) → nat_eq (number_of k) 51 ≡ true → operator_of k ≡ Some operator.Div
unfolding operator_of
is_slash terminal.Slash h = refl
is_slash _ h = absurd (let d : false ≡ true = h in cc)

is_percent : (k : Terminal) → nat_eq (number_of k) 52 ≡ true → operator_of k ≡ Some operator.Rem
unfolding operator_of
is_percent terminal.Percent h = refl
is_percent _ h = absurd (let d : false ≡ true = h in cc)

is_equals : (k : Terminal) → nat_eq (number_of k) 47 ≡ true → operator_of k ≡ Some operator.Eq
unfolding operator_of
is_equals terminal.Equals h = refl
is_equals _ h = absurd (let d : false ≡ true = h in cc)

is_less : (k : Terminal) → nat_eq (number_of k) 53 ≡ true → operator_of k ≡ Some operator.Lt
unfolding operator_of
is_less terminal.Less h = refl
is_less _ h = absurd (let d : false ≡ true = h in cc)

-- an arrow is none
no_operator : (k : Terminal) → nat_eq (number_of k) 54 ≡ true → operator_of k ≡ None
unfolding operator_of
no_operator terminal.Arrow h = refl
no_operator _ h = absurd (let d : false ≡ true = h in cc)

-- the target behind an expression
target_ends : (t : Tree target) (ts : List Lexeme) → operator_of (front (leaves target t ++ ts)).terminal ≡ None
unfolding target front
target_ends (arrow, number) ts = no_operator arrow.token.terminal arrow.is

-- behind a first operand stands a mark with an operand, or the arrow of the target
mark_reads : (s : Scope) (left : Operand) (mark : Tree binary) (ts : List Lexeme) →
    rest_at s left (leaves binary mark ++ ts) (operator_of (front (leaves binary mark ++ ts)).terminal)
    ≡ (operand_at s ts >>= λ right. Ok (binary_of mark left right.0, right.1))
unfolding binary of_binary binary_of front behind
mark_reads s left (inl m) ts = rw (is_plus m.token.terminal m.is) refl
mark_reads s left (inr (inl m)) ts = rw (is_minus m.token.terminal m.is) refl
mark_reads s left (inr (inr (inl m))) ts = rw (is_star m.token.terminal m.is) refl
mark_reads s left (inr (inr (inr (inl m)))) ts = rw (is_slash m.token.terminal m.is) refl
mark_reads s left (inr (inr (inr (inr (inl m))))) ts = rw (is_percent m.token.terminal m.is) refl
mark_reads s left (inr (inr (inr (inr (inr (inl m)))))) ts = rw (is_equals m.token.terminal m.is) refl
mark_reads s left (inr (inr (inr (inr (inr (inr m)))))) ts = rw (is_less m.token.terminal m.is) refl

pub expr_reads : (s : Scope) (t : Tree expr) (next : Tree target) (ts : List Lexeme) → expr_at s (leaves expr t ++ (leaves target next ++ ts))
    ≡ reads (expr_offences s t) (expr_of s t) (leaves target next ++ ts)
unfolding expr expr_at expr_offences expr_of front behind
expr_reads s (inl (neg, value)) next ts =
    let us : List Lexeme = leaves target next ++ ts in
    rw (neg.is, operand_reads s value us) (reads_last (operand_offences s value) (operand_of s value) _ us us _ refl)
expr_reads s (inr (inl (eqz, value))) next ts =
    let us : List Lexeme = leaves target next ++ ts in
    rw (leaf_number eqz, operand_reads s value us) (reads_last (operand_offences s value) (operand_of s value) _ us us _ refl)
expr_reads s (inr (inr (value, None))) next ts =
    let us : List Lexeme = leaves target next ++ ts in
    let regroup : (leaves operand value ++ []) ++ us ≡ leaves operand value ++ us = append_assoc (leaves operand value) [] us in
    let n : (is_terminal terminal.Neg (front (leaves operand value ++ us)) ≡ false)
    × (is_terminal terminal.Eqz (front (leaves operand value ++ us)) ≡ false) = no_word value us in
    let arrow : operator_of (front us).terminal ≡ None = target_ends next ts in
    rw (regroup, n.0, n.1, operand_reads s value us) (reads_last (operand_offences s value) (operand_of s value) _ us us _ (rw arrow refl))
expr_reads s (inr (inr (left, Some (mark, right)))) next ts =
    let us : List Lexeme = leaves target next ++ ts in
    let vs : List Lexeme = leaves binary mark ++ (leaves operand right ++ us) in
    let inner : (leaves binary mark ++ leaves operand right) ++ us ≡ vs = append_assoc (leaves binary mark) (leaves operand right) us in
    let regroup : (leaves operand left ++ (leaves binary mark ++ leaves operand right)) ++ us ≡ leaves operand left ++ vs =
    append_assoc (leaves operand left) (leaves binary mark ++ leaves operand right) us ∙ ap (λ z. leaves operand left ++ z) inner in
    let n : (is_terminal terminal.Neg (front (leaves operand left ++ vs)) ≡ false)
    × (is_terminal terminal.Eqz (front (leaves operand left ++ vs)) ≡ false) = no_word left vs in
    rw (regroup, n.0, n.1, operand_reads s left vs)
    (reads_then (operand_offences s left) (operand_offences s right) (operand_of s left) _ vs us _
    (rw (mark_reads s (operand_of s left) mark (leaves operand right ++ us), operand_reads s right us)
    (reads_last (operand_offences s right) (operand_of s right) _ us us _ refl)))
