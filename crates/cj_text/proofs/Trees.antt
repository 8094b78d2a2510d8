-- The trees of canonical texts: the tokens of each value in the line in which it is printed.
use Rattle.std.proofs.Common.{◌≡◌, refl, ℕ, ℤ, pos, true, List, [], ◌∷◌, map, take, drop, inl, inr, arith, nat_eq}
use Rattle.std.specs.Prelude.{Option, Some, None, slice_get}
use Rattle.std.proofs.lemmas.Bool.Decides.{nat_tests}
use Rattle.cj_ir.specs.declared.language.Edge.{Edge}
use Rattle.cj_ir.specs.declared.language.Edge.TheVariants as edges
use Rattle.cj_ir.specs.declared.language.Expr.{Expr}
use Rattle.cj_ir.specs.declared.language.Expr.TheVariants as exprs
use Rattle.cj_ir.specs.declared.language.Function.{Function}
use Rattle.cj_ir.specs.declared.language.Instr.{Instr}
use Rattle.cj_ir.specs.declared.language.Instr.TheVariants as instrs
use Rattle.cj_ir.specs.declared.language.Label.{Label}
use Rattle.cj_ir.specs.declared.language.Line.{Line}
use Rattle.cj_ir.specs.declared.language.Operand.{Operand}
use Rattle.cj_ir.specs.declared.language.Operand.TheVariants as operands
use Rattle.cj_ir.specs.declared.script.Script.{Script}
use Rattle.cj_ir.specs.declared.script.ScriptCall.{ScriptCall}
use Rattle.cj_ir.specs.declared.script.Setup.{Setup}
use Rattle.cj_ir.specs.declared.script.Setup.TheVariants as setups
use Rattle.cj_tokens.specs.Lexemes.{Lexeme, Is, number_of}
use Rattle.cj_tokens.specs.Printed.{fixed}
use Rattle.cj_tokens.specs.Scan.{next_line}
use Rattle.cj_tokens.specs.declared.terminal.Terminal.{Terminal}
use Rattle.cj_tokens.specs.declared.terminal.Terminal.TheVariants as terminal
use Rattle.cj_grammar.specs.Grammar.{Leaf, Tree, seq, opt}
use Rattle.cj_grammar.specs.Rules as rule
use Rattle.cj_printer.specs.Canonical.{reg_text, function_text, reg_in}
use Rattle.cj_text.proofs.Chunks.{name_token, number_token, text_token}

-- ---- leaves

pub same : (n : ℕ) → nat_eq n n ≡ true
same n = grind (arith, nat_tests)

abbrev pub key : (k : Terminal) → ℕ → Leaf (Is k)
key k line = record { token = fixed k line; is = same (number_of k) }

abbrev pub name_leaf : ℕ → List ℕ → Leaf (Is terminal.Name)
name_leaf line name = record { token = name_token line name; is = refl }

abbrev pub number_leaf : ℕ → ℤ → Leaf (Is terminal.Number)
number_leaf line z = record { token = number_token line z; is = refl }

abbrev pub text_leaf : ℕ → List ℕ → Leaf (Is terminal.Text)
text_leaf line text = record { token = text_token line text; is = refl }

abbrev pub end_token : ℕ → Lexeme
end_token line = record { terminal = terminal.End; line = line; text = []; number = pos 0 }

abbrev pub end_leaf : ℕ → Leaf (Is terminal.End)
end_leaf line = record { token = end_token line; is = refl }

-- ---- items that begin a line each, behind a line

abbrev pub each_line : {A T : Type 0} → (ℕ → A → T) → ℕ → List A → List T
each_line tree line [] = []
each_line tree line (x ∷ xs) = tree (next_line line) x ∷ each_line tree (next_line line) xs

-- the line of the last one
abbrev pub last_line : {A : Type 0} → ℕ → List A → ℕ
last_line line [] = line
last_line line (x ∷ xs) = last_line (next_line line) xs

-- ---- instructions

-- the number of a line, and 0 where there is none
abbrev pub number_at : Option Line → ℕ
number_at None = 0
number_at (Some line) = line.name

abbrev pub label_number : Function → Label → ℕ
label_number f label = number_at (slice_get f.code label.0)

unfoldable pub operand_tree : ℕ → Function → Operand → Tree rule.operand
unfolding rule.operand
operand_tree l f (operands.Reg r) = inl (name_leaf l (reg_text f r))
operand_tree l f (operands.Const z) = inr (number_leaf l z)

unfoldable pub target_tree : ℕ → Function → Label → Tree rule.target
unfolding rule.target
target_tree l f next = (key terminal.Arrow l, number_leaf l (pos (label_number f next)))

unfoldable pub expr_tree : ℕ → Function → Expr → Tree rule.expr
unfolding rule.expr rule.binary
expr_tree l f (exprs.Copy a) = inr (inr (operand_tree l f a, None))
expr_tree l f (exprs.Neg a) = inl (key terminal.Neg l, operand_tree l f a)
expr_tree l f (exprs.Eqz a) = inr (inl (key terminal.Eqz l, operand_tree l f a))
expr_tree l f (exprs.Add a b) = inr (inr (operand_tree l f a, Some (inl (key terminal.Plus l), operand_tree l f b)))
expr_tree l f (exprs.Sub a b) = inr (inr (operand_tree l f a, Some (inr (inl (key terminal.Minus l)), operand_tree l f b)))
expr_tree l f (exprs.Mul a b) = inr (inr (operand_tree l f a, Some (inr (inr (inl (key terminal.Star l))), operand_tree l f b)))
expr_tree l f (exprs.Div a b) = inr (inr (operand_tree l f a, Some (inr (inr (inr (inl (key terminal.Slash l)))), operand_tree l f b)))
expr_tree l f (exprs.Rem a b) = inr (inr (operand_tree l f a, Some (inr (inr (inr (inr (inl (key terminal.Percent l))))), operand_tree l f b)))
expr_tree l f (exprs.Eq a b) = inr (inr (operand_tree l f a, Some (inr (inr (inr (inr (inr (inl (key terminal.Equals l)))))), operand_tree l f b)))
expr_tree l f (exprs.Lt a b) = inr (inr (operand_tree l f a, Some (inr (inr (inr (inr (inr (inr (key terminal.Less l)))))), operand_tree l f b)))

-- an operand behind a comma
abbrev pub next_operand : ℕ → Function → Operand → Tree (seq (rule.one terminal.Comma) rule.operand)
next_operand l f a = (key terminal.Comma l, operand_tree l f a)

unfoldable pub arguments_tree : ℕ → Function → List Operand → Tree (opt rule.operands)
unfolding rule.operands rule.more_operands
arguments_tree l f [] = None
arguments_tree l f (a ∷ more) = Some (operand_tree l f a, map (next_operand l f) more)

unfoldable pub instr_tree : List Function → Function → ℕ → Instr → Tree rule.instr
unfolding rule.instr rule.nop_instr rule.op_instr rule.cond_instr rule.call_instr rule.return_instr rule.print_instr rule.load_instr rule.store_instr
    rule.fail_instr
instr_tree fs f l (instrs.Nop next) = inl (key terminal.Nop l, target_tree l f next)
instr_tree fs f l (instrs.Op dest e next) =
    inr (inl (key terminal.Op l, (name_leaf l (reg_text f dest), (key terminal.Equals l, (expr_tree l f e, target_tree l f next)))))
instr_tree fs f l (instrs.Cond test then_to else_to) =
    inr (inr (inl (
      key terminal.Cond
          l,
      (operand_tree l f test, (target_tree l f then_to, (key terminal.Comma l, number_leaf l (pos (label_number f else_to))))),
    )))
instr_tree fs f l (instrs.Call dest callee args next) =
    inr (inr (inr (inl (
      key terminal.Call
          l,
      (
        name_leaf l (reg_text f dest),
        (
          key terminal.Equals
              l,
          (
            name_leaf l (function_text fs callee),
            (
              key terminal.OpenParen
                  l,
              (arguments_tree l f args, (key terminal.CloseParen l, target_tree l f next)),
            ),
          ),
        ),
      ),
    ))))
instr_tree fs f l (instrs.Return value) = inr (inr (inr (inr (inl (key terminal.Return l, operand_tree l f value)))))
instr_tree fs f l (instrs.Print value next) =
    inr (inr (inr (inr (inr (inl (key terminal.Print l, (operand_tree l f value, target_tree l f next)))))))
instr_tree fs f l (instrs.Load dest address next) =
    inr (inr (inr (inr (inr
    (inr (inl (
      key terminal.Load
          l,
      (
        name_leaf l (reg_text f dest),
        (
          key terminal.Equals
              l,
          (key terminal.OpenBracket l, (operand_tree l f address, (key terminal.CloseBracket l, target_tree l f next))),
        ),
      ),
    )))))))
instr_tree fs f l (instrs.Store address value next) =
    inr (inr (inr (inr (inr
    (inr (inr (inl (
      key terminal.Store
          l,
      (
        key terminal.OpenBracket
            l,
        (operand_tree l f address, (key terminal.CloseBracket l, (key terminal.Equals l, (operand_tree l f value, target_tree l f next)))),
      ),
    ))))))))
instr_tree fs f l (instrs.Fail text) =
    inr (inr (inr (inr (inr (inr (inr (inr (key terminal.Fail l, text_leaf l text))))))))

-- ---- functions

unfoldable pub line_tree : List Function → Function → ℕ → Line → Tree rule.line
unfolding rule.line
line_tree fs f l line = (number_leaf l (pos line.name), (key terminal.Colon l, instr_tree fs f l line.instr))

unfoldable pub lines_tree : List Function → Function → ℕ → List Line → Tree rule.lines
unfolding rule.lines
lines_tree fs f l code = each_line (line_tree fs f) l code

-- a name behind a comma
abbrev pub next_name : ℕ → List ℕ → Tree (seq (rule.one terminal.Comma) (rule.one terminal.Name))
next_name l name = (key terminal.Comma l, name_leaf l name)

unfoldable pub names_tree : ℕ → List (List ℕ) → Tree (opt rule.names)
unfolding rule.names rule.more_names
names_tree l [] = None
names_tree l (name ∷ more) = Some (name_leaf l name, map (next_name l) more)

unfoldable pub others_tree : ℕ → List (List ℕ) → Tree (opt (seq (rule.one terminal.Semicolon) rule.names))
unfolding rule.names rule.more_names
others_tree l [] = None
others_tree l (name ∷ more) = Some (key terminal.Semicolon l, (name_leaf l name, map (next_name l) more))

unfoldable pub head_tree : ℕ → Function → Tree rule.head
unfolding rule.head
head_tree l f = (
  key terminal.Fun l,
  (
    name_leaf l
        f.name,
    (key terminal.OpenParen l, (names_tree l (take f.params f.regs), (others_tree l (drop f.params f.regs), key terminal.CloseParen l))),
  ),
)

-- the line of a function's `}`
abbrev pub fun_end : ℕ → Function → ℕ
fun_end l f = next_line (last_line l f.code)

unfoldable pub fun_tree : List Function → ℕ → Function → Tree rule.fun
unfolding rule.fun
fun_tree fs l f =
    (head_tree l f, (key terminal.OpenBrace l, (lines_tree fs f l f.code, key terminal.CloseBrace (fun_end l f))))

-- functions, of which the first begins in that line
abbrev pub fun_trees : List Function → ℕ → List Function → List (Tree rule.fun)
fun_trees fs l [] = []
fun_trees fs l (f ∷ more) = fun_tree fs l f ∷ fun_trees fs (next_line (fun_end l f)) more

-- the line of the last `}`, behind a line
abbrev pub funs_end : ℕ → List Function → ℕ
funs_end l [] = l
funs_end l (f ∷ more) = funs_end (fun_end (next_line l) f) more

unfoldable pub funs_tree : List Function → Function → List Function → Tree rule.funs
unfolding rule.funs rule.more_funs
funs_tree fs f more = (fun_tree fs 1 f, fun_trees fs (next_line (fun_end 1 f)) more)

-- ---- scripts

abbrev pub label_in_number : Option Function → Label → ℕ
label_in_number None label = 0
label_in_number (Some f) label = label_number f label

unfoldable pub edge_tree : ℕ → Edge → Tree rule.edge
unfolding rule.edge
edge_tree l edges.Then = inl (key terminal.Then l)
edge_tree l edges.Else = inr (key terminal.Else l)

unfoldable pub setup_tree : List Function → ℕ → Setup → Tree rule.setup
unfolding rule.setup rule.guess_setup rule.cold_setup rule.warm_setup
setup_tree fs l (setups.Guess id param value) =
    inl (key terminal.Guess l, (name_leaf l (function_text fs id), (name_leaf l (reg_in (slice_get fs id.0) param), number_leaf l value)))
setup_tree fs l (setups.Cold id label edge) =
    inr (inl (key terminal.Cold l, (name_leaf l (function_text fs id), (number_leaf l (pos (label_in_number (slice_get fs id.0) label)), edge_tree l edge))))
setup_tree fs l (setups.Warm id level) =
    inr (inr (key terminal.Warm l, (name_leaf l (function_text fs id), number_leaf l (pos level))))

unfoldable pub begun_tree : List Function → ℕ → ScriptCall → Tree rule.begun
unfolding rule.begun rule.numbers
begun_tree fs l call = (
  name_leaf l (function_text fs call.function),
  (
    map
        (number_leaf l) call.args,
    (Some (key terminal.Memory l, number_leaf l (pos call.cells)), (key terminal.Limit l, number_leaf l (pos call.limit))),
  ),
)

unfoldable pub call_tree : List Function → ℕ → ScriptCall → Tree rule.script_call
unfolding rule.script_call
call_tree fs l call = (key terminal.Call l, begun_tree fs l call)

unfoldable pub script_tree : List Function → ℕ → Script → Tree rule.script
unfolding rule.script rule.setups rule.script_calls
script_tree fs l s =
    (key terminal.Calls (next_line l), (each_line (setup_tree fs) (next_line l) s.setups, each_line (call_tree fs) (last_line (next_line l) s.setups) s.calls))

abbrev pub script_end : ℕ → Script → ℕ
script_end l s = last_line (last_line (next_line l) s.setups) s.calls

unfoldable pub input_tree : List Function → Function → List Function → Script → Tree rule.input
unfolding rule.input
input_tree fs f more s =
    let behind : ℕ = funs_end (fun_end 1 f) more in
    (funs_tree fs f more, (script_tree fs behind s, end_leaf (next_line (script_end behind s))))
