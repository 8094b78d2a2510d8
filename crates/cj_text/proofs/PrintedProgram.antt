-- The pieces of a program are read as the tokens of its tree.
use Rattle.std.proofs.Common.{◌≡◌, ◌∙◌, sym, ap, refl, subst, ℕ, pos, ◌<◌, ◌≤◌, ◌^◌, List, [], ◌∷◌, ◌++◌, map, flat_map, take, drop, append_assoc, arith}
use Rattle.std.specs.Prelude.{codes, decimal}
use Rattle.std.proofs.lemmas.List.{take-append-drop}
use lib.Signed.{mag}
use Rattle.cj_ir.specs.declared.language.Expr.{Expr}
use Rattle.cj_ir.specs.declared.language.Expr.TheVariants as exprs
use Rattle.cj_ir.specs.declared.language.FunId.{FunId}
use Rattle.cj_ir.specs.declared.language.Function.{Function}
use Rattle.cj_ir.specs.declared.language.Instr.{Instr}
use Rattle.cj_ir.specs.declared.language.Instr.TheVariants as instrs
use Rattle.cj_ir.specs.declared.language.Label.{Label}
use Rattle.cj_ir.specs.declared.language.Line.{Line}
use Rattle.cj_ir.specs.declared.language.Operand.{Operand}
use Rattle.cj_ir.specs.declared.language.Operand.TheVariants as operands
use Rattle.cj_tokens.specs.Lexemes.{Lexeme}
use Rattle.cj_tokens.specs.Printed.{fixed}
use Rattle.cj_tokens.specs.Scan.{next_line}
use Rattle.cj_tokens.specs.declared.terminal.Terminal.TheVariants as terminal
use Rattle.cj_grammar.specs.Grammar.{leaves, seq, opt}
use Rattle.cj_grammar.specs.Rules as rule
use Rattle.cj_printer.specs.Pieces.{Piece, glued, blank, feed, after_comma, listed}
use Rattle.cj_printer.specs.Canonical.{reg_text, function_text, label_text, operand_text, target_pieces, expr_pieces, callee_pieces, instr_pieces, line_pieces}
use Rattle.cj_printer.specs.Canonical.{others_pieces, function_pieces, more_pieces, functions_pieces}
use Rattle.cj_text.specs.Written.{IsName}
use Rattle.cj_text.proofs.Chunks.{Inside, Chunk, ◌▸◌, ◌▹◌, nothing, nothing_inside, name_token, number_token, name_blank, number_blank, key_blank, mark_blank}
use Rattle.cj_text.proofs.Chunks.{text_blank, mark_glued, name_glued, number_glued, key_glued, opened_glued, opened_blank, key_feed, mark_feed, number_feed}
use Rattle.cj_text.proofs.Lists.{Every, every_split}
use Rattle.cj_text.proofs.Known.{LabelKnown, OperandKnown, ExprKnown, InstrKnown, FunctionKnown, text_parts}
use Rattle.cj_text.proofs.Trees.{label_number, each_line, last_line, operand_tree, target_tree, expr_tree, next_operand, arguments_tree, instr_tree, line_tree}
use Rattle.cj_text.proofs.Trees.{lines_tree, next_name, names_tree, others_tree, head_tree, fun_end, fun_tree, fun_trees, funs_end, funs_tree}

pub pieces_are : {l m : ℕ} {ps qs : List Piece} {ts : List Lexeme} → ps ≡ qs → Chunk l m ps ts → Chunk l m qs ts
pieces_are {l} {m} {ps} {qs} {ts} e c = subst (λ (rs : List Piece). Chunk l m rs ts) e c

pub tokens_are : {l m : ℕ} {ps : List Piece} {ts us : List Lexeme} → ts ≡ us → Chunk l m ps ts → Chunk l m ps us
tokens_are {l} {m} {ps} {ts} {us} e c = subst (λ (vs : List Lexeme). Chunk l m ps vs) e c

-- ---- operands

pub operand_chunk : (l : ℕ) (f : Function) (a : Operand) → OperandKnown f a →
    Chunk l l (blank (operand_text f a) ∷ []) (leaves rule.operand (operand_tree l f a))
unfolding rule.operand operand_tree
operand_chunk l f (operands.Reg r) k = name_blank l (reg_text f r) k.name
operand_chunk l f (operands.Const z) k = number_blank l z k

operand_inside : (l : ℕ) (f : Function) (a : Operand) → OperandKnown f a → Inside l l (glued (operand_text f a) ∷ []) (leaves rule.operand (operand_tree l f a))
unfolding rule.operand operand_tree
operand_inside l f (operands.Reg r) k = name_glued l (reg_text f r) k.name
operand_inside l f (operands.Const z) k = number_glued l z k

small_value : (n : ℕ) → n ≤ 65535 → mag (pos n) < 2 ^ 63
small_value n h = omega arith

pub number_of_label : (l : ℕ) (w : List ℕ) (n : ℕ) → w ≡ decimal n → n ≤ 65535 → Chunk l l (blank w ∷ []) (number_token l (pos n) ∷ [])
number_of_label l w n e h = subst (λ v. Chunk l l (blank v ∷ []) (number_token l (pos n) ∷ [])) (sym e) (number_blank l (pos n) (small_value n h))

label_chunk : (l : ℕ) (f : Function) (label : Label) → LabelKnown f label →
    Chunk l l (blank (label_text f label) ∷ []) (number_token l (pos (label_number f label)) ∷ [])
label_chunk l f label k = number_of_label l (label_text f label) (label_number f label) k.text k.small

target_chunk : (l : ℕ) (f : Function) (next : Label) → LabelKnown f next → Chunk l l (target_pieces f next) (leaves rule.target (target_tree l f next))
unfolding rule.target target_tree
target_chunk l f next k = mark_blank l terminal.Arrow refl ▸ label_chunk l f next k

expr_chunk : (l : ℕ) (f : Function) (e : Expr) → ExprKnown f e → Chunk l l (expr_pieces f e) (leaves rule.expr (expr_tree l f e))
unfolding rule.expr rule.binary expr_tree expr_pieces
expr_chunk l f (exprs.Copy a) k = operand_chunk l f a k ▸ nothing l
expr_chunk l f (exprs.Neg a) k = key_blank l terminal.Neg refl ▸ operand_chunk l f a k
expr_chunk l f (exprs.Eqz a) k = key_blank l terminal.Eqz refl ▸ operand_chunk l f a k
expr_chunk l f (exprs.Add a b) k = operand_chunk l f a k.0 ▸ mark_blank l terminal.Plus refl ▸ operand_chunk l f b k.1
expr_chunk l f (exprs.Sub a b) k = operand_chunk l f a k.0 ▸ mark_blank l terminal.Minus refl ▸ operand_chunk l f b k.1
expr_chunk l f (exprs.Mul a b) k = operand_chunk l f a k.0 ▸ mark_blank l terminal.Star refl ▸ operand_chunk l f b k.1
expr_chunk l f (exprs.Div a b) k = operand_chunk l f a k.0 ▸ mark_blank l terminal.Slash refl ▸ operand_chunk l f b k.1
expr_chunk l f (exprs.Rem a b) k = operand_chunk l f a k.0 ▸ mark_blank l terminal.Percent refl ▸ operand_chunk l f b k.1
expr_chunk l f (exprs.Eq a b) k = operand_chunk l f a k.0 ▸ mark_blank l terminal.Equals refl ▸ operand_chunk l f b k.1
expr_chunk l f (exprs.Lt a b) k = operand_chunk l f a k.0 ▸ mark_blank l terminal.Less refl ▸ operand_chunk l f b k.1

-- ---- calls

more_arguments : (l : ℕ) (f : Function) (args : List Operand) → Every (OperandKnown f) args →
    Chunk l l (flat_map after_comma (map (operand_text f) args)) (flat_map (leaves (seq (rule.one terminal.Comma) rule.operand)) (map (next_operand l f) args))
more_arguments l f [] k = nothing l
more_arguments l f (a ∷ args) k = (mark_glued l terminal.Comma refl (λ rest. refl) ▸ operand_chunk l f a k.0) ▸ more_arguments l f args k.1

arguments_inside : (l : ℕ) (f : Function) (args : List Operand) → Every (OperandKnown f) args →
    Inside l l (listed (map (operand_text f) args)) (leaves (opt rule.operands) (arguments_tree l f args))
unfolding rule.operands rule.more_operands arguments_tree
arguments_inside l f [] k = nothing_inside l
arguments_inside l f (a ∷ args) k = operand_inside l f a k.0 ▹ more_arguments l f args k.1

-- `f(a, b) -> n`
called_chunk : (l : ℕ) (fs : List Function) (f : Function) (callee : FunId) (args : List Operand) (next : Label) → IsName (function_text fs callee) →
    Every (OperandKnown f) args → LabelKnown f next →
    Chunk l l (callee_pieces fs f callee args ++ target_pieces f next) (name_token l (function_text fs callee) ∷ fixed terminal.OpenParen l
    ∷ (leaves (opt rule.operands) (arguments_tree l f args) ++ (fixed terminal.CloseParen l ∷ leaves rule.target (target_tree l f next))))
called_chunk l fs f callee args next name known to =
    pieces_are (ap (λ (ps : List Piece). blank (function_text fs callee)
    ∷ glued (codes "(") ∷ ps) (sym (append_assoc (listed (map (operand_text f) args)) (glued (codes ")") ∷ []) (target_pieces f next))))
    (name_blank l (function_text fs callee) name ▸ opened_glued terminal.OpenParen refl (λ rest. refl) (λ rest. refl)
    (arguments_inside l f args known ▹ (mark_glued l terminal.CloseParen refl (λ rest. refl) ▸ target_chunk l f next to)))

-- ---- instructions

pub instr_chunk : (l : ℕ) (fs : List Function) (f : Function) (i : Instr) → InstrKnown fs f i →
    Chunk l l (instr_pieces fs f i) (leaves rule.instr (instr_tree fs f l i))
unfolding rule.instr rule.nop_instr rule.op_instr rule.cond_instr rule.call_instr rule.return_instr rule.print_instr rule.load_instr rule.store_instr
    rule.fail_instr instr_tree instr_pieces
instr_chunk l fs f (instrs.Nop next) k = key_blank l terminal.Nop refl ▸ target_chunk l f next k
instr_chunk l fs f (instrs.Op dest e next) k =
    key_blank l terminal.Op refl ▸ name_blank l (reg_text f dest) k.0.name ▸ mark_blank l terminal.Equals refl ▸ expr_chunk l f e k.1 ▸ target_chunk l f next
    k.2
instr_chunk l fs f (instrs.Cond test then_to else_to) k =
    key_blank l terminal.Cond refl ▸ operand_chunk l f test k.0 ▸ target_chunk l f then_to k.1 ▸ mark_glued l terminal.Comma refl
    (λ rest. refl) ▸ label_chunk l f else_to k.2
instr_chunk l fs f (instrs.Call dest callee args next) k =
    key_blank l terminal.Call refl ▸ name_blank l (reg_text f dest) k.0.name ▸ mark_blank l terminal.Equals refl ▸ called_chunk l fs f callee args next
    k.1.name k.2 k.3
instr_chunk l fs f (instrs.Return value) k = key_blank l terminal.Return refl ▸ operand_chunk l f value k
instr_chunk l fs f (instrs.Print value next) k = key_blank l terminal.Print refl ▸ operand_chunk l f value k.0 ▸ target_chunk l f next k.1
instr_chunk l fs f (instrs.Load dest address next) k =
    key_blank l terminal.Load refl ▸ name_blank l (reg_text f dest) k.0.name ▸ mark_blank l terminal.Equals refl ▸ opened_blank terminal.OpenBracket refl
    (λ rest. refl) (operand_inside l f address k.1 ▹ (mark_glued l terminal.CloseBracket refl (λ rest. refl) ▸ target_chunk l f next k.2))
instr_chunk l fs f (instrs.Store address value next) k =
    key_blank l terminal.Store refl ▸ opened_blank terminal.OpenBracket refl (λ rest. refl)
    (operand_inside l f address k.0 ▹
    (mark_glued l terminal.CloseBracket refl (λ rest. refl) ▸ mark_blank l terminal.Equals refl ▸ operand_chunk l f value k.1 ▸ target_chunk l f next k.2))
instr_chunk l fs f (instrs.Fail text) k = key_blank l terminal.Fail refl ▸ text_blank l text (text_parts text k).0

-- ---- lines

-- items that begin a line each
pub lines_chunk : {A T : Type 0} (pieces : A → List Piece) (tree : ℕ → A → T) (tokens : T → List Lexeme) (xs : List A) →
    Every (λ x. (l : ℕ) → Chunk l (next_line l) (pieces x) (tokens (tree (next_line l) x))) xs → (l : ℕ) →
    Chunk l (last_line l xs) (flat_map pieces xs) (flat_map tokens (each_line tree l xs))
lines_chunk pieces tree tokens [] h l = nothing l
lines_chunk pieces tree tokens (x ∷ xs) h l = h.0 l ▸ lines_chunk pieces tree tokens xs h.1 (next_line l)

line_chunk : (fs : List Function) (f : Function) (line : Line) → (line.name ≤ 65535) × InstrKnown fs f line.instr → (l : ℕ) →
    Chunk l (next_line l) (line_pieces fs f line) (leaves rule.line (line_tree fs f (next_line l) line))
unfolding rule.line line_tree line_pieces
line_chunk fs f line k l =
    number_feed l (pos line.name) (small_value line.name k.0) ▸ mark_glued (next_line l) terminal.Colon refl (λ rest. refl) ▸ instr_chunk
    (next_line l) fs f line.instr k.1

every_line : (fs : List Function) (f : Function) (code : List Line) → Every (λ line. (line.name ≤ 65535) × InstrKnown fs f line.instr) code →
    Every (λ line. (l : ℕ) → Chunk l (next_line l) (line_pieces fs f line) (leaves rule.line (line_tree fs f (next_line l) line))) code
every_line fs f [] h = tt
every_line fs f (line ∷ code) h = (line_chunk fs f line h.0, every_line fs f code h.1)

code_chunk : (fs : List Function) (f : Function) → Every (λ line. (line.name ≤ 65535) × InstrKnown fs f line.instr) f.code → (l : ℕ) →
    Chunk l (last_line l f.code) (flat_map (line_pieces fs f) f.code) (leaves rule.lines (lines_tree fs f l f.code))
unfolding rule.lines lines_tree
code_chunk fs f h l = lines_chunk (line_pieces fs f) (line_tree fs f) (leaves rule.line) f.code (every_line fs f f.code h) l

-- ---- heads

more_names : (l : ℕ) (names : List (List ℕ)) → Every IsName names →
    Chunk l l (flat_map after_comma names) (flat_map (leaves (seq (rule.one terminal.Comma) (rule.one terminal.Name))) (map (next_name l) names))
more_names l [] h = nothing l
more_names l (name ∷ names) h = (mark_glued l terminal.Comma refl (λ rest. refl) ▸ name_blank l name h.0) ▸ more_names l names h.1

names_inside : (l : ℕ) (names : List (List ℕ)) → Every IsName names → Inside l l (listed names) (leaves (opt rule.names) (names_tree l names))
unfolding rule.names rule.more_names names_tree
names_inside l [] h = nothing_inside l
names_inside l (name ∷ names) h = name_glued l name h.0 ▹ more_names l names h.1

others_chunk : (l : ℕ) (names : List (List ℕ)) → Every IsName names →
    Chunk l l (others_pieces names) (leaves (opt (seq (rule.one terminal.Semicolon) rule.names)) (others_tree l names))
unfolding rule.names rule.more_names others_tree
others_chunk l [] h = nothing l
others_chunk l (name ∷ names) h = mark_glued l terminal.Semicolon refl (λ rest. refl) ▸ name_blank l name h.0 ▸ more_names l names h.1

-- ---- functions

regroup : {X : Type 0} (a b c d : List X) → a ++ (b ++ (c ++ d)) ≡ (a ++ (b ++ c)) ++ d
regroup a b c d = ap (λ x. a ++ x) (sym (append_assoc b c d)) ∙ sym (append_assoc a (b ++ c) d)

function_is : (fs : List Function) (f : Function) →
    blank f.name ∷ glued
    (codes "(") ∷ (listed (take f.params f.regs)
    ++ (others_pieces (drop f.params f.regs) ++ (glued (codes ")") ∷ blank (codes "{") ∷ (flat_map (line_pieces fs f) f.code ++ feed (codes "}") ∷ []))))
    ≡ function_pieces fs f
unfolding function_pieces
function_is fs f = simp append_assoc

-- the tokens of a function behind its word
abbrev pub fun_tokens : List Function → ℕ → Function → List Lexeme
fun_tokens fs l f =
    name_token l f.name ∷ fixed terminal.OpenParen l
    ∷ ((leaves (opt rule.names) (names_tree l (take f.params f.regs))
    ++ (leaves (opt (seq (rule.one terminal.Semicolon) rule.names)) (others_tree l (drop f.params f.regs)) ++ fixed terminal.CloseParen l ∷ []))
    ++ (fixed terminal.OpenBrace l ∷ (leaves rule.lines (lines_tree fs f l f.code) ++ fixed terminal.CloseBrace (fun_end l f) ∷ [])))

pub fun_leaves : (fs : List Function) (l : ℕ) (f : Function) → leaves rule.fun (fun_tree fs l f) ≡ fixed terminal.Fun l ∷ fun_tokens fs l f
unfolding rule.fun rule.head fun_tree head_tree
fun_leaves fs l f = refl

function_chunk : (fs : List Function) (f : Function) → FunctionKnown fs f → (l : ℕ) → Chunk l (fun_end l f) (function_pieces fs f) (fun_tokens fs l f)
function_chunk fs f k l =
    let registers : take f.params f.regs ++ drop f.params f.regs ≡ f.regs = take-append-drop f.params f.regs in
    let named : Every IsName (take f.params f.regs) × Every IsName (drop f.params f.regs) = every_split IsName (take f.params f.regs) (drop f.params f.regs)
    (subst (λ (names : List (List ℕ)). Every IsName names) (sym registers) k.registers) in
    let param_tokens : List Lexeme = leaves (opt rule.names) (names_tree l (take f.params f.regs)) in
    let other_tokens : List Lexeme = leaves (opt (seq (rule.one terminal.Semicolon) rule.names)) (others_tree l (drop f.params f.regs)) in
    let body_tokens : List Lexeme = fixed terminal.OpenBrace l
    ∷ (leaves rule.lines (lines_tree fs f l f.code) ++ fixed terminal.CloseBrace (fun_end l f) ∷ []) in
    pieces_are (function_is fs f)
    (tokens_are (ap (λ (ts : List Lexeme). name_token l f.name ∷ fixed terminal.OpenParen l ∷ ts)
    (regroup param_tokens other_tokens (fixed terminal.CloseParen l ∷ []) body_tokens))
    (name_blank l f.name k.name ▸ opened_glued terminal.OpenParen refl (λ rest. refl) (λ rest. refl)
    (names_inside l (take f.params f.regs) named.0 ▹
    (others_chunk l (drop f.params f.regs) named.1 ▸ mark_glued l terminal.CloseParen refl (λ rest. refl) ▸ mark_blank l terminal.OpenBrace refl ▸
    code_chunk fs f k.lines l ▸ mark_feed (last_line l f.code) terminal.CloseBrace refl))))

more_chunk : (fs : List Function) (more : List Function) → Every (FunctionKnown fs) more → (l : ℕ) →
    Chunk l (funs_end l more) (flat_map (more_pieces fs) more) (flat_map (leaves rule.fun) (fun_trees fs (next_line l) more))
more_chunk fs [] k l = nothing l
more_chunk fs (f ∷ more) k l =
    let line : ℕ = next_line l in
    let here : Chunk l (fun_end line f) (more_pieces fs f) (leaves rule.fun (fun_tree fs line f)) =
    tokens_are (sym (fun_leaves fs line f)) (key_feed l terminal.Fun refl ▸ function_chunk fs f k.0 line) in
    here ▸ more_chunk fs more k.1 (fun_end line f)

pub functions_inside : (fs : List Function) (f : Function) (more : List Function) → FunctionKnown fs f → Every (FunctionKnown fs) more →
    Inside 1 (funs_end (fun_end 1 f) more) (functions_pieces fs (f ∷ more)) (leaves rule.funs (funs_tree fs f more))
unfolding rule.funs rule.more_funs funs_tree
functions_inside fs f more k ks =
    let ts : List Lexeme = flat_map (leaves rule.fun) (fun_trees fs (next_line (fun_end 1 f)) more) in
    let all : Inside 1 (funs_end (fun_end 1 f) more) (functions_pieces fs (f ∷ more)) (fixed terminal.Fun 1 ∷ (fun_tokens fs 1 f ++ ts)) =
    key_glued 1 terminal.Fun refl ▹ (function_chunk fs f k 1 ▸ more_chunk fs more ks (fun_end 1 f)) in
    subst (λ (us : List Lexeme). Inside 1 (funs_end (fun_end 1 f) more) (functions_pieces fs (f ∷ more)) (us ++ ts)) (sym (fun_leaves fs 1 f)) all
