-- The tree of an instruction means that instruction, and has no offence.
use Rattle.std.proofs.Common.{◌≡◌, ◌∙◌, ap, refl, ℕ, pos, Bool, false, List, [], ◌∷◌, ◌++◌, length, map, flat_map, suc}
use Rattle.std.specs.Prelude.{Option, Some, ◌==◌, not, unwrap_or, nat_lt}
use Rattle.std.proofs.lemmas.List.{length-map}
use Rattle.std.proofs.lemmas.Bool.{not_from_true, eq-eqb}
use Rattle.cj_ir.specs.declared.language.Expr.{Expr}
use Rattle.cj_ir.specs.declared.language.Expr.TheVariants as exprs
use Rattle.cj_ir.specs.declared.language.FunId.{FunId}
use Rattle.cj_ir.specs.declared.language.Function.{Function}
use Rattle.cj_ir.specs.declared.language.Instr.{Instr}
use Rattle.cj_ir.specs.declared.language.Instr.TheVariants as instrs
use Rattle.cj_ir.specs.declared.language.Label.{Label}
use Rattle.cj_ir.specs.declared.language.Operand.{Operand}
use Rattle.cj_ir.specs.declared.language.Operand.TheVariants as operands
use Rattle.cj_ir.specs.declared.language.Reg.{Reg}
use Rattle.cj_tokens.specs.Lexemes.{Lexeme, Is}
use Rattle.cj_tokens.specs.declared.terminal.Terminal.TheVariants as terminal
use Rattle.cj_tokens.specs.declared.refusal.Kind.{Kind}
use Rattle.cj_tokens.specs.declared.refusal.Kind.TheVariants.{TooMany, Range, NoRegister, NoLabel, Arguments}
use Rattle.cj_tokens.specs.declared.refusal.Refused.{Refused}
use Rattle.cj_grammar.specs.Grammar.{Leaf, Tree}
use Rattle.cj_grammar.specs.Rules as rule
use Rattle.cj_grammar.specs.Alternatives.{of_instr, of_binary}
use Rattle.cj_grammar.specs.Reading.{offends_if, missing}
use Rattle.cj_reader.specs.Scopes.{Scope, name_place, number_place, scope_of}
use Rattle.cj_reader.specs.Operands.{is_long, is_line_number, register_offences, register_of, label_offences, label_of, target_offences, target_of}
use Rattle.cj_reader.specs.Operands.{operand_offences, operand_of, binary_of, expr_offences, expr_of}
use Rattle.cj_reader.specs.Instructions.{arguments_offences, arguments_of, argument_count, count_offences, callee_offences, callee_of, nop_offences, nop_of}
use Rattle.cj_reader.specs.Instructions.{op_offences, op_of, cond_offences, cond_of, call_offences, call_of, return_offences, return_of, print_offences}
use Rattle.cj_reader.specs.Instructions.{print_of, load_offences, load_of, store_offences, store_of, fail_offences, fail_of, instr_offences, instr_of}
use Rattle.cj_printer.specs.Canonical.{reg_text, function_text}
use Rattle.cj_text.proofs.Chunks.{name_token, number_token, text_token}
use Rattle.cj_text.proofs.Lists.{Every}
use Rattle.cj_text.proofs.Known.{RegKnown, LabelKnown, CalleeKnown, OperandKnown, ExprKnown, InstrKnown, text_parts, numbers, heads_in}
use Rattle.cj_text.proofs.Trees.{label_number, operand_tree, target_tree, expr_tree, next_operand, arguments_tree, instr_tree}

-- ---- words

pub none : (es fs : List Refused) → es ≡ [] → fs ≡ [] → es ++ fs ≡ []
none es fs e f = rw (e, f) refl

pub unless : (b : Bool) (t : Lexeme) (kind : Kind) → b ≡ false → offends_if b t kind ≡ []
unless b t kind e = rw e refl

pub there : {A : Type 0} (o : Option A) (a : A) (t : Lexeme) (kind : Kind) → o ≡ Some a → missing o t kind ≡ []
there o a t kind e = rw e refl

pub same_two : {A B C : Type 0} (f : A → B → C) {a c : A} {b d : B} → a ≡ c → b ≡ d → f a b ≡ f c d
same_two f {a} {c} {b} {d} e g = ap (λ x. f x b) e ∙ ap (f c) g

pub same_three : {A B C D : Type 0} (f : A → B → C → D) {a x : A} {b y : B} {c z : C} → a ≡ x → b ≡ y → c ≡ z → f a b c ≡ f x y z
same_three f {a} {x} {b} {y} {c} {z} e g h = same_two (λ u v. f u v c) e g ∙ ap (f x y) h

pub same_four : {A B C D E : Type 0} (f : A → B → C → D → E) {a x : A} {b y : B} {c z : C} {d w : D} → a ≡ x → b ≡ y → c ≡ z → d ≡ w → f a b c d ≡ f x y z w
same_four f {a} {x} {b} {y} {c} {z} {d} {w} e g h i = same_three (λ u v t. f u v t d) e g h ∙ ap (f x y z) i

-- what is known in a function of these functions
abbrev pub known_scope : List Function → Function → Scope
known_scope fs f = scope_of (heads_in fs) f.regs (numbers f.code)

-- ---- registers and labels

register_fine : (fs : List Function) (f : Function) (l : ℕ) (r : Reg) → RegKnown f r → register_offences (known_scope fs f) (name_token l (reg_text f r)) ≡ []
register_fine fs f l r k =
    let t : Lexeme = name_token l (reg_text f r) in
    none (offends_if (is_long t) t TooMany) (missing (name_place f.regs (reg_text f r)) t NoRegister)
    (unless (is_long t) t TooMany k.short) (there (name_place f.regs (reg_text f r)) r.0 t NoRegister k.place)

register_same : (fs : List Function) (f : Function) (l : ℕ) (r : Reg) → RegKnown f r → register_of (known_scope fs f) (name_token l (reg_text f r)) ≡ r
register_same fs f l r k = ap (λ (o : Option ℕ). let reg : Reg = record { 0 = unwrap_or o 0 } in reg) k.place

label_fine : (fs : List Function) (f : Function) (l : ℕ) (label : Label) → LabelKnown f label →
    label_offences (known_scope fs f) (number_token l (pos (label_number f label))) ≡ []
label_fine fs f l label k =
    let n : ℕ = label_number f label in
    let t : Lexeme = number_token l (pos n) in
    none (offends_if (not (is_line_number (pos n))) t Range) (missing (number_place (numbers f.code) (pos n)) t NoLabel)
    (unless (not (is_line_number (pos n))) t Range (not_from_true (is_line_number (pos n)) k.range))
    (there (number_place (numbers f.code) (pos n)) label.0 t NoLabel k.place)

label_same : (fs : List Function) (f : Function) (l : ℕ) (label : Label) → LabelKnown f label →
    label_of (known_scope fs f) (number_token l (pos (label_number f label))) ≡ label
label_same fs f l label k = ap (λ (o : Option ℕ). let to : Label = record { 0 = unwrap_or o 0 } in to) k.place

target_fine : (fs : List Function) (f : Function) (l : ℕ) (next : Label) → LabelKnown f next → target_offences (known_scope fs f) (target_tree l f next) ≡ []
unfolding rule.target target_tree target_offences
target_fine fs f l next k = label_fine fs f l next k

target_same : (fs : List Function) (f : Function) (l : ℕ) (next : Label) → LabelKnown f next → target_of (known_scope fs f) (target_tree l f next) ≡ next
unfolding rule.target target_tree target_of
target_same fs f l next k = label_same fs f l next k

-- ---- operands and expressions

operand_fine : (fs : List Function) (f : Function) (l : ℕ) (a : Operand) → OperandKnown f a → operand_offences (known_scope fs f) (operand_tree l f a) ≡ []
unfolding rule.operand operand_tree operand_offences
operand_fine fs f l (operands.Reg r) k = register_fine fs f l r k
operand_fine fs f l (operands.Const z) k = refl

operand_same : (fs : List Function) (f : Function) (l : ℕ) (a : Operand) → OperandKnown f a → operand_of (known_scope fs f) (operand_tree l f a) ≡ a
unfolding rule.operand operand_tree operand_of
operand_same fs f l (operands.Reg r) k = ap operands.Reg (register_same fs f l r k)
operand_same fs f l (operands.Const z) k = refl

two_fine : (fs : List Function) (f : Function) (l : ℕ) (a b : Operand) → OperandKnown f a × OperandKnown f b →
    operand_offences (known_scope fs f) (operand_tree l f a) ++ operand_offences (known_scope fs f) (operand_tree l f b) ≡ []
two_fine fs f l a b k = none (operand_offences (known_scope fs f) (operand_tree l f a)) (operand_offences (known_scope fs f) (operand_tree l f b))
    (operand_fine fs f l a k.0) (operand_fine fs f l b k.1)

two_same : (fs : List Function) (f : Function) (l : ℕ) (mark : Operand → Operand → Expr) (a b : Operand) → OperandKnown f a × OperandKnown f b →
    mark (operand_of (known_scope fs f) (operand_tree l f a)) (operand_of (known_scope fs f) (operand_tree l f b)) ≡ mark a b
two_same fs f l mark a b k = same_two mark (operand_same fs f l a k.0) (operand_same fs f l b k.1)

expr_fine : (fs : List Function) (f : Function) (l : ℕ) (e : Expr) → ExprKnown f e → expr_offences (known_scope fs f) (expr_tree l f e) ≡ []
unfolding rule.expr rule.binary expr_tree expr_offences
expr_fine fs f l (exprs.Copy a) k = operand_fine fs f l a k
expr_fine fs f l (exprs.Neg a) k = operand_fine fs f l a k
expr_fine fs f l (exprs.Eqz a) k = operand_fine fs f l a k
expr_fine fs f l (exprs.Add a b) k = two_fine fs f l a b k
expr_fine fs f l (exprs.Sub a b) k = two_fine fs f l a b k
expr_fine fs f l (exprs.Mul a b) k = two_fine fs f l a b k
expr_fine fs f l (exprs.Div a b) k = two_fine fs f l a b k
expr_fine fs f l (exprs.Rem a b) k = two_fine fs f l a b k
expr_fine fs f l (exprs.Eq a b) k = two_fine fs f l a b k
expr_fine fs f l (exprs.Lt a b) k = two_fine fs f l a b k

expr_same : (fs : List Function) (f : Function) (l : ℕ) (e : Expr) → ExprKnown f e → expr_of (known_scope fs f) (expr_tree l f e) ≡ e
unfolding rule.expr rule.binary expr_tree expr_of of_binary binary_of
expr_same fs f l (exprs.Copy a) k = ap exprs.Copy (operand_same fs f l a k)
expr_same fs f l (exprs.Neg a) k = ap exprs.Neg (operand_same fs f l a k)
expr_same fs f l (exprs.Eqz a) k = ap exprs.Eqz (operand_same fs f l a k)
expr_same fs f l (exprs.Add a b) k = two_same fs f l exprs.Add a b k
expr_same fs f l (exprs.Sub a b) k = two_same fs f l exprs.Sub a b k
expr_same fs f l (exprs.Mul a b) k = two_same fs f l exprs.Mul a b k
expr_same fs f l (exprs.Div a b) k = two_same fs f l exprs.Div a b k
expr_same fs f l (exprs.Rem a b) k = two_same fs f l exprs.Rem a b k
expr_same fs f l (exprs.Eq a b) k = two_same fs f l exprs.Eq a b k
expr_same fs f l (exprs.Lt a b) k = two_same fs f l exprs.Lt a b k

-- ---- calls

abbrev Next : Type 0
Next = Leaf (Is terminal.Comma) × Tree rule.operand

more_fine : (fs : List Function) (f : Function) (l : ℕ) (args : List Operand) → Every (OperandKnown f) args →
    flat_map (λ (t : Next). operand_offences (known_scope fs f) t.1) (map (next_operand l f) args) ≡ []
more_fine fs f l [] k = refl
more_fine fs f l (a ∷ args) k =
    none (operand_offences (known_scope fs f) (operand_tree l f a))
    (flat_map (λ (t : Next). operand_offences (known_scope fs f) t.1) (map (next_operand l f) args)) (operand_fine fs f l a k.0) (more_fine fs f l args k.1)

more_same : (fs : List Function) (f : Function) (l : ℕ) (args : List Operand) → Every (OperandKnown f) args →
    map (λ (t : Next). operand_of (known_scope fs f) t.1) (map (next_operand l f) args) ≡ args
more_same fs f l [] k = refl
more_same fs f l (a ∷ args) k = same_two (λ (x : Operand) (xs : List Operand). x ∷ xs) (operand_same fs f l a k.0) (more_same fs f l args k.1)

arguments_fine : (fs : List Function) (f : Function) (l : ℕ) (args : List Operand) → Every (OperandKnown f) args →
    arguments_offences (known_scope fs f) (arguments_tree l f args) ≡ []
unfolding rule.operands rule.more_operands arguments_tree arguments_offences
arguments_fine fs f l [] k = refl
arguments_fine fs f l (a ∷ args) k =
    none (operand_offences (known_scope fs f) (operand_tree l f a))
    (flat_map (λ (t : Next). operand_offences (known_scope fs f) t.1) (map (next_operand l f) args)) (operand_fine fs f l a k.0) (more_fine fs f l args k.1)

arguments_same : (fs : List Function) (f : Function) (l : ℕ) (args : List Operand) → Every (OperandKnown f) args →
    arguments_of (known_scope fs f) (arguments_tree l f args) ≡ args
unfolding rule.operands rule.more_operands arguments_tree arguments_of
arguments_same fs f l [] k = refl
arguments_same fs f l (a ∷ args) k = same_two (λ (x : Operand) (xs : List Operand). x ∷ xs) (operand_same fs f l a k.0) (more_same fs f l args k.1)

count_same : (l : ℕ) (f : Function) (args : List Operand) → argument_count (arguments_tree l f args) ≡ length args
unfolding rule.operands rule.more_operands arguments_tree argument_count
count_same l f [] = refl
count_same l f (a ∷ args) = ap (λ n. suc n) (length-map args (next_operand l f))

callee_fine : (fs : List Function) (f : Function) (l : ℕ) (id : FunId) (count : ℕ) → CalleeKnown fs id count →
    callee_offences (known_scope fs f) (name_token l (function_text fs id)) count ≡ []
callee_fine fs f l id count k =
    let t : Lexeme = name_token l (function_text fs id) in
    none (offends_if (is_long t) t TooMany) (count_offences t count ((known_scope fs f).function_at t.text))
    (unless (is_long t) t TooMany k.short)
    (ap (count_offences t count) k.place ∙ unless (not (count == count)) t Arguments (not_from_true (count == count) (eq-eqb count count refl)))

callee_same : (fs : List Function) (f : Function) (l : ℕ) (id : FunId) (count : ℕ) → CalleeKnown fs id count →
    callee_of (known_scope fs f) (name_token l (function_text fs id)) ≡ id
callee_same fs f l id count k = rw k.place refl

-- ---- instructions

pub instr_fine : (fs : List Function) (f : Function) (l : ℕ) (i : Instr) → InstrKnown fs f i → instr_offences (known_scope fs f) (instr_tree fs f l i) ≡ []
unfolding rule.instr rule.nop_instr rule.op_instr rule.cond_instr rule.call_instr rule.return_instr rule.print_instr rule.load_instr rule.store_instr
    rule.fail_instr instr_tree of_instr instr_offences nop_offences op_offences cond_offences call_offences return_offences print_offences load_offences
    store_offences fail_offences
instr_fine fs f l (instrs.Nop next) k = target_fine fs f l next k
instr_fine fs f l (instrs.Op dest e next) k =
    none _ _ (register_fine fs f l dest k.0) (none _ _ (expr_fine fs f l e k.1) (target_fine fs f l next k.2))
instr_fine fs f l (instrs.Cond test then_to else_to) k =
    none _ _ (operand_fine fs f l test k.0) (none _ _ (target_fine fs f l then_to k.1) (label_fine fs f l else_to k.2))
instr_fine fs f l (instrs.Call dest callee args next) k =
    let called : callee_offences (known_scope fs f) (name_token l (function_text fs callee)) (argument_count (arguments_tree l f args)) ≡ [] =
    ap (callee_offences (known_scope fs f) (name_token l (function_text fs callee))) (count_same l f args) ∙ callee_fine fs f l callee (length args) k.1 in
    none _ _ (register_fine fs f l dest k.0) (none _ _ called (none _ _ (arguments_fine fs f l args k.2) (target_fine fs f l next k.3)))
instr_fine fs f l (instrs.Return value) k = operand_fine fs f l value k
instr_fine fs f l (instrs.Print value next) k = none _ _ (operand_fine fs f l value k.0) (target_fine fs f l next k.1)
instr_fine fs f l (instrs.Load dest address next) k =
    none _ _ (register_fine fs f l dest k.0) (none _ _ (operand_fine fs f l address k.1) (target_fine fs f l next k.2))
instr_fine fs f l (instrs.Store address value next) k =
    none _ _ (operand_fine fs f l address k.0) (none _ _ (operand_fine fs f l value k.1) (target_fine fs f l next k.2))
instr_fine fs f l (instrs.Fail text) k = unless (nat_lt 64 (length text)) (text_token l text) TooMany (text_parts text k).1

pub instr_same : (fs : List Function) (f : Function) (l : ℕ) (i : Instr) → InstrKnown fs f i → instr_of (known_scope fs f) (instr_tree fs f l i) ≡ i
unfolding rule.instr rule.nop_instr rule.op_instr rule.cond_instr rule.call_instr rule.return_instr rule.print_instr rule.load_instr rule.store_instr
    rule.fail_instr instr_tree of_instr instr_of nop_of op_of cond_of call_of return_of print_of load_of store_of fail_of
instr_same fs f l (instrs.Nop next) k = ap instrs.Nop (target_same fs f l next k)
instr_same fs f l (instrs.Op dest e next) k =
    same_three instrs.Op (register_same fs f l dest k.0) (expr_same fs f l e k.1) (target_same fs f l next k.2)
instr_same fs f l (instrs.Cond test then_to else_to) k =
    same_three instrs.Cond (operand_same fs f l test k.0) (target_same fs f l then_to k.1) (label_same fs f l else_to k.2)
instr_same fs f l (instrs.Call dest callee args next) k =
    same_four instrs.Call (register_same fs f l dest k.0) (callee_same fs f l callee (length args) k.1) (arguments_same fs f l args k.2)
    (target_same fs f l next k.3)
instr_same fs f l (instrs.Return value) k = ap instrs.Return (operand_same fs f l value k)
instr_same fs f l (instrs.Print value next) k = same_two instrs.Print (operand_same fs f l value k.0) (target_same fs f l next k.1)
instr_same fs f l (instrs.Load dest address next) k =
    same_three instrs.Load (register_same fs f l dest k.0) (operand_same fs f l address k.1) (target_same fs f l next k.2)
instr_same fs f l (instrs.Store address value next) k =
    same_three instrs.Store (operand_same fs f l address k.0) (operand_same fs f l value k.1) (target_same fs f l next k.2)
instr_same fs f l (instrs.Fail text) k = refl
