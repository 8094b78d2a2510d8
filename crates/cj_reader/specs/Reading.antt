-- The reading of functions from their tokens. The order of the tokens is the grammar's, and is not looked at again.
use Rattle.std.specs.Prelude.{ℕ, zero, suc, List, [], ◌∷◌, ◌++◌, length, Bool, false, cond, ◌||◌, not, Option, None, Some, Result, Ok, Err, nat_lt, nat_le}
use Rattle.std.specs.Prelude.{◌==◌}
use Rattle.std.specs.List.{list_any}
use Rattle.std.specs.Str.{bytes_eq}
use Rattle.cj_ir.specs.declared.language.FunId.{FunId}
use Rattle.cj_ir.specs.declared.language.Reg.{Reg}
use Rattle.cj_ir.specs.declared.language.Label.{Label}
use Rattle.cj_ir.specs.declared.language.Operand.{Operand}
use Rattle.cj_ir.specs.declared.language.Operand.TheVariants as operands
use Rattle.cj_ir.specs.declared.language.Expr.{Expr}
use Rattle.cj_ir.specs.declared.language.Expr.TheVariants as exprs
use Rattle.cj_ir.specs.declared.language.Instr.{Instr}
use Rattle.cj_ir.specs.declared.language.Instr.TheVariants as instrs
use Rattle.cj_ir.specs.declared.language.Line.{Line}
use Rattle.cj_ir.specs.declared.language.Function.{Function}
use Rattle.cj_ir.specs.declared.language.Program.{Program}
use Rattle.cj_tokens.specs.Lexemes.{Lexeme, is_terminal}
use Rattle.cj_tokens.specs.Passing.{front, behind}
use Rattle.cj_tokens.specs.declared.terminal.Terminal.{Terminal}
use Rattle.cj_tokens.specs.declared.terminal.Terminal.TheVariants as terminal
use Rattle.cj_tokens.specs.declared.refusal.Kind.{Kind}
use Rattle.cj_tokens.specs.declared.refusal.Kind.TheVariants.{Syntax, TooMany, NameTwice, Range, LabelTwice, NoEntry, NoRegister, NoLabel, NoFunction}
use Rattle.cj_tokens.specs.declared.refusal.Kind.TheVariants.{Arguments}
use Rattle.cj_tokens.specs.declared.refusal.Refused.{Refused}
use Rattle.cj_grammar.specs.OneAhead.{◌>>=◌}
use Rattle.cj_grammar.specs.Reading.{offence}
use Rattle.cj_grammar.specs.Readers.{Read, found, each_at}
use Rattle.cj_reader.specs.declared.scope.Callee.{Callee}
use Rattle.cj_reader.specs.declared.calls.Called.{Called}
use Rattle.cj_reader.specs.declared.declarations.Declared.{Declared}
use Rattle.cj_reader.specs.declared.operators.Operator.{Operator}
use Rattle.cj_reader.specs.declared.operators.Operator.TheVariants as operator
use Rattle.cj_reader.specs.Scopes.{Scope, name_place, number_place, first_named}
use Rattle.cj_reader.specs.Operands.{is_long, is_line_number}
use Rattle.cj_reader.specs.Functions.{natural}
use Rattle.cj_reader.specs.Prescans.{count_at, numbers_at, heads_at}
use Rattle.cj_ir.specs.declared.limits.TheConstants.{MAX_FUNCTIONS, MAX_REGS, MAX_LABELS, MAX_TEXT}

-- nothing against a token, or an offence
abbrev pub refuse_if : Bool → Lexeme → Kind → Result (Unit {0}) Refused
refuse_if test t kind = cond test (Err (offence t kind)) (Ok tt)

-- one more item, appended
abbrev pub one_more_at : {X : Type 0} → (List X → List Lexeme → Read X) → List X → List Lexeme → Read (List X)
one_more_at one earlier ts = one earlier ts >>= λ x. Ok (earlier ++ x.0 ∷ [], x.1)

-- The bytes of a NAME and of a TEXT. No other token stands there.
unfoldable pub word_at : Lexeme → Result (List ℕ) Refused
word_at t = cond (is_terminal terminal.Name t) (Ok t.text) (Err (offence t Syntax))

unfoldable pub text_at : Lexeme → Result (List ℕ) Refused
text_at t = cond (is_terminal terminal.Text t) (Ok t.text) (Err (offence t Syntax))

-- ---- operands

unfoldable pub register_at : Scope → Lexeme → Result Reg Refused
register_at s t =
    refuse_if (is_long t) t TooMany >>= λ u. found (name_place s.registers t.text) (offence t NoRegister) >>= λ place. Ok (record { 0 = place })

unfoldable pub label_at : Scope → Lexeme → Result Label Refused
label_at s t =
    refuse_if (not (is_line_number t.number)) t Range >>= λ u. found (s.line_at t.number) (offence t NoLabel) >>= λ place. Ok (record { 0 = place })

-- the `->` and the number
unfoldable pub target_at : Scope → List Lexeme → Read Label
target_at s ts = label_at s (front (behind ts)) >>= λ label. Ok (label, behind (behind ts))

unfoldable pub operand_at : Scope → List Lexeme → Read Operand
operand_at s ts =
    cond (is_terminal terminal.Name (front ts))
    (register_at s (front ts) >>= λ reg. Ok (operands.Reg reg, behind ts))
    (Ok (operands.Const (front ts).number, behind ts))

-- a register and the `=` behind it
unfoldable pub dest_at : Scope → List Lexeme → Read Reg
dest_at s ts = register_at s (front ts) >>= λ dest. Ok (dest, behind (behind ts))

-- an operand in brackets
unfoldable pub address_at : Scope → List Lexeme → Read Operand
address_at s ts = operand_at s (behind ts) >>= λ address. Ok (address.0, behind address.1)

unfoldable pub operator_of : Terminal → Option Operator
operator_of terminal.Plus = Some operator.Add
operator_of terminal.Minus = Some operator.Sub
operator_of terminal.Star = Some operator.Mul
operator_of terminal.Slash = Some operator.Div
operator_of terminal.Percent = Some operator.Rem
operator_of terminal.Equals = Some operator.Eq
operator_of terminal.Less = Some operator.Lt
operator_of _ = None

abbrev pub applied : Operator → Operand → Operand → Expr
applied operator.Add = exprs.Add
applied operator.Sub = exprs.Sub
applied operator.Mul = exprs.Mul
applied operator.Div = exprs.Div
applied operator.Rem = exprs.Rem
applied operator.Eq = exprs.Eq
applied operator.Lt = exprs.Lt

-- what stands behind a first operand
abbrev pub rest_at : Scope → Operand → List Lexeme → Option Operator → Read Expr
rest_at s left ts None = Ok (exprs.Copy left, ts)
rest_at s left ts (Some op) = operand_at s (behind ts) >>= λ right. Ok (applied op left right.0, right.1)

unfoldable pub expr_at : Scope → List Lexeme → Read Expr
expr_at s ts =
    cond (is_terminal terminal.Neg (front ts)) (operand_at s (behind ts) >>= λ value. Ok (exprs.Neg value.0, value.1))
    (cond (is_terminal terminal.Eqz (front ts)) (operand_at s (behind ts) >>= λ value. Ok (exprs.Eqz value.0, value.1))
    (operand_at s ts >>= λ left. rest_at s left.0 left.1 (operator_of (front left.1).terminal)))

-- ---- calls

-- a comma and an operand
abbrev pub next_operand_at : Scope → List Operand → List Lexeme → Read Operand
next_operand_at s earlier ts = operand_at s (behind ts)

abbrev pub arguments_at : Scope → ℕ → List Lexeme → Read (List Operand)
arguments_at s zero ts = Ok ([], ts)
arguments_at s (suc n) ts =
    operand_at s ts >>= λ first. each_at (next_operand_at s) n (first.0 ∷ []) first.1

abbrev pub called_with : Lexeme → ℕ → Option Callee → Result FunId Refused
called_with t count None = Err (offence t NoFunction)
called_with t count (Some callee) = cond (callee.params == count) (Ok callee.function) (Err (offence t Arguments))

unfoldable pub callee_at : Scope → Lexeme → ℕ → Result FunId Refused
callee_at s t count = refuse_if (is_long t) t TooMany >>= λ u. called_with t count (s.function_at t.text)

-- a NAME and its arguments in parentheses
unfoldable pub called_at : Scope → List Lexeme → Read Called
called_at s ts =
    let inside : List Lexeme = behind (behind ts) in
    callee_at s (front ts) (count_at inside) >>= λ function. arguments_at s (count_at inside) inside >>= λ args. Ok
    (record { function = function; args = args.0 }, behind args.1)

-- ---- instructions, behind their first words

unfoldable pub nop_at : Scope → List Lexeme → Read Instr
nop_at s ts = target_at s ts >>= λ next. Ok (instrs.Nop next.0, next.1)

unfoldable pub op_at : Scope → List Lexeme → Read Instr
op_at s ts =
    dest_at s ts >>= λ dest. expr_at s dest.1 >>= λ value. target_at s value.1 >>= λ next. Ok (instrs.Op dest.0 value.0 next.0, next.1)

unfoldable pub cond_at : Scope → List Lexeme → Read Instr
cond_at s ts =
    operand_at s ts >>= λ test. target_at s test.1 >>= λ then_to. target_at s then_to.1 >>= λ else_to. Ok (instrs.Cond test.0 then_to.0 else_to.0, else_to.1)

unfoldable pub call_at : Scope → List Lexeme → Read Instr
call_at s ts =
    dest_at s ts >>= λ dest. called_at s dest.1 >>= λ called. target_at s called.1 >>= λ next. Ok
    (instrs.Call dest.0 called.0.function called.0.args next.0, next.1)

unfoldable pub return_at : Scope → List Lexeme → Read Instr
return_at s ts = operand_at s ts >>= λ value. Ok (instrs.Return value.0, value.1)

unfoldable pub print_at : Scope → List Lexeme → Read Instr
print_at s ts =
    operand_at s ts >>= λ value. target_at s value.1 >>= λ next. Ok (instrs.Print value.0 next.0, next.1)

unfoldable pub load_at : Scope → List Lexeme → Read Instr
load_at s ts =
    dest_at s ts >>= λ dest. address_at s dest.1 >>= λ address. target_at s address.1 >>= λ next. Ok (instrs.Load dest.0 address.0 next.0, next.1)

unfoldable pub store_at : Scope → List Lexeme → Read Instr
store_at s ts =
    address_at s ts >>= λ address. operand_at s (behind address.1) >>= λ value. target_at s value.1 >>= λ next. Ok
    (instrs.Store address.0 value.0 next.0, next.1)

unfoldable pub fail_at : List Lexeme → Read Instr
fail_at ts =
    refuse_if (nat_lt MAX_TEXT (length (front ts).text)) (front ts) TooMany >>= λ u. text_at (front ts) >>= λ text. Ok (instrs.Fail text, behind ts)

unfoldable pub instr_at : Scope → List Lexeme → Read Instr
instr_at s ts =
    cond (is_terminal terminal.Nop (front ts)) (nop_at s (behind ts))
    (cond (is_terminal terminal.Op (front ts)) (op_at s (behind ts))
    (cond (is_terminal terminal.Cond (front ts)) (cond_at s (behind ts))
    (cond (is_terminal terminal.Call (front ts)) (call_at s (behind ts))
    (cond (is_terminal terminal.Return (front ts)) (return_at s (behind ts))
    (cond (is_terminal terminal.Print (front ts)) (print_at s (behind ts))
    (cond (is_terminal terminal.Load (front ts)) (load_at s (behind ts))
    (cond (is_terminal terminal.Store (front ts)) (store_at s (behind ts))
    (fail_at (behind ts)))))))))

-- ---- lines

-- what was found stands before the n-th
abbrev pub is_before : ℕ → Option ℕ → Bool
is_before n None = false
is_before n (Some place) = nat_lt place n

-- the number of the n-th line
unfoldable pub line_number_at : Scope → ℕ → Lexeme → Result ℕ Refused
line_number_at s n t =
    refuse_if (nat_le MAX_LABELS n) t TooMany >>= λ u. refuse_if (not (is_line_number t.number)) t Range >>= λ u. refuse_if
    (is_before n (s.line_at t.number)) t LabelTwice >>= λ u. Ok (natural t.number)

unfoldable pub line_at : Scope → List Line → List Lexeme → Read Line
line_at s earlier ts =
    line_number_at s (length earlier) (front ts) >>= λ name. instr_at s (behind (behind ts)) >>= λ i. Ok (record { name = name; instr = i.0 }, i.1)

-- ---- names

-- a declared name, behind the ones before it, in a list of at most so many
unfoldable pub name_at : ℕ → List (List ℕ) → List Lexeme → Read (List ℕ)
name_at limit earlier ts =
    refuse_if (is_long (front ts) || nat_le limit (length earlier)) (front ts) TooMany >>= λ u. refuse_if
    (list_any (λ other. bytes_eq other (front ts).text) earlier) (front ts) NameTwice >>= λ u. word_at (front ts) >>= λ name. Ok (name, behind ts)

-- a comma and a name
abbrev pub next_name_at : ℕ → List (List ℕ) → List Lexeme → Read (List ℕ)
next_name_at limit earlier ts = name_at limit earlier (behind ts)

abbrev pub names_at : ℕ → ℕ → List (List ℕ) → List Lexeme → Read (List (List ℕ))
names_at limit zero earlier ts = Ok (earlier, ts)
names_at limit (suc n) earlier ts =
    name_at limit earlier ts >>= λ first. each_at (next_name_at limit) n (earlier ++ first.0 ∷ []) first.1

-- the registers behind the parameters
unfoldable pub others_at : List (List ℕ) → List Lexeme → Read (List (List ℕ))
others_at params ts =
    cond (is_terminal terminal.Semicolon (front ts)) (names_at MAX_REGS (count_at (behind ts)) params (behind ts)) (Ok (params, ts))

-- ---- functions

-- what a function declares, in parentheses
unfoldable pub declared_at : List Lexeme → Read Declared
declared_at ts =
    names_at 8 (count_at (behind ts)) [] (behind ts) >>= λ params. others_at params.0 params.1 >>= λ all. Ok
    (record { params = length params.0; registers = all.0 }, behind all.1)

-- the function that has a name
abbrev pub Known : Type 0
Known = List ℕ → Option Callee

abbrev pub is_earlier : ℕ → Option Callee → Bool
is_earlier n None = false
is_earlier n (Some callee) = nat_lt callee.function.0 n

-- the name of the n-th function
unfoldable pub function_name_at : Known → ℕ → Lexeme → Result (List ℕ) Refused
function_name_at known n t =
    refuse_if (is_long t || nat_le MAX_FUNCTIONS n) t TooMany >>= λ u. refuse_if (is_earlier n (known t.text)) t NameTwice >>= λ u. word_at t

-- as many lines as there are numbers, and the `}`
unfoldable pub body_at : Scope → ℕ → List Lexeme → Read (List Line)
body_at s count ts =
    each_at (line_at s) count [] ts >>= λ code. refuse_if (length code.0 == 0) (front code.1) NoEntry >>= λ u. Ok (code.0, behind code.1)

-- what is known in a function's lines
abbrev pub scope_at : Known → List (List ℕ) → List Lexeme → Scope
scope_at known registers ts =
    record { registers = registers; line_at = number_place (numbers_at ts); function_at = known }

abbrev pub code_at : Known → List (List ℕ) → List Lexeme → Read (List Line)
code_at known registers ts = body_at (scope_at known registers ts) (length (numbers_at ts)) ts

unfoldable pub function_at : Known → List Function → List Lexeme → Read Function
function_at known earlier ts =
    function_name_at known (length earlier) (front (behind ts)) >>= λ name. declared_at (behind (behind ts)) >>= λ front. code_at known front.0.registers
    (behind front.1) >>= λ code. Ok (record { name = name; params = front.0.params; regs = front.0.registers; code = code.0 }, code.1)

-- ---- programs

unfoldable pub functions_at : List Lexeme → Read (List Function)
functions_at ts = each_at (function_at (first_named 0 (heads_at ts))) (length (heads_at ts)) [] ts

unfoldable pub program_at : List Lexeme → Read Program
program_at ts = functions_at ts >>= λ all. Ok (record { functions = all.0 }, all.1)
