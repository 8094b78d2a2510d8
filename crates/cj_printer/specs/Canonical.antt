-- The canonical text of programs and inputs: one blank between the tokens of a line, but for those that are glued
-- to the token before them.
use Rattle.std.specs.Prelude.{ℕ, ℤ, List, [], ◌∷◌, ◌++◌, map, take, drop, flat_map, Option, Some, None, slice_get, codes, decimal}
use Rattle.std.specs.Fmt.{signed_decimal}
use Rattle.cj_ir.specs.declared.language.Edge.{Edge}
use Rattle.cj_ir.specs.declared.language.Edge.TheVariants.{Then, Else}
use Rattle.cj_ir.specs.declared.language.Expr.{Expr}
use Rattle.cj_ir.specs.declared.language.Expr.TheVariants as expr
use Rattle.cj_ir.specs.declared.language.FunId.{FunId}
use Rattle.cj_ir.specs.declared.language.Function.{Function}
use Rattle.cj_ir.specs.declared.language.Instr.{Instr}
use Rattle.cj_ir.specs.declared.language.Instr.TheVariants as instr
use Rattle.cj_ir.specs.declared.language.Label.{Label}
use Rattle.cj_ir.specs.declared.language.Line.{Line}
use Rattle.cj_ir.specs.declared.language.Operand.{Operand}
use Rattle.cj_ir.specs.declared.language.Operand.TheVariants as operand
use Rattle.cj_ir.specs.declared.language.Program.{Program}
use Rattle.cj_ir.specs.declared.language.Reg.{Reg}
use Rattle.cj_ir.specs.declared.script.Input.{Input}
use Rattle.cj_ir.specs.declared.script.Script.{Script}
use Rattle.cj_ir.specs.declared.script.ScriptCall.{ScriptCall}
use Rattle.cj_ir.specs.declared.script.Setup.{Setup}
use Rattle.cj_ir.specs.declared.script.Setup.TheVariants.{Guess, Cold, Warm}
use Rattle.cj_printer.specs.Pieces.{Piece, glued, blank, feed, after_comma, listed, pieces_text}

-- ---- names and numbers

abbrev pub text_or_none : Option (List ℕ) → List ℕ
text_or_none None = []
text_or_none (Some text) = text

abbrev pub reg_text : Function → Reg → List ℕ
reg_text f reg = text_or_none (slice_get f.regs reg.0)

abbrev pub name_of : Option Function → List ℕ
name_of None = []
name_of (Some f) = f.name

abbrev pub function_text : List Function → FunId → List ℕ
function_text functions id = name_of (slice_get functions id.0)

-- the number that the text gives a label
abbrev pub number_text : Option Line → List ℕ
number_text None = []
number_text (Some line) = decimal line.name

abbrev pub label_text : Function → Label → List ℕ
label_text f label = number_text (slice_get f.code label.0)

abbrev pub operand_text : Function → Operand → List ℕ
operand_text f (operand.Reg reg) = reg_text f reg
operand_text f (operand.Const value) = signed_decimal value

-- ---- instructions

abbrev pub target_pieces : Function → Label → List Piece
target_pieces f next = blank (codes "->") ∷ blank (label_text f next) ∷ []

abbrev pub binary_pieces : Function → Operand → List ℕ → Operand → List Piece
binary_pieces f left operator right = blank (operand_text f left) ∷ blank operator ∷ blank (operand_text f right) ∷ []

unfoldable pub expr_pieces : Function → Expr → List Piece
expr_pieces f (expr.Copy value) = blank (operand_text f value) ∷ []
expr_pieces f (expr.Neg value) = blank (codes "neg") ∷ blank (operand_text f value) ∷ []
expr_pieces f (expr.Eqz value) = blank (codes "eqz") ∷ blank (operand_text f value) ∷ []
expr_pieces f (expr.Add left right) = binary_pieces f left (codes "+") right
expr_pieces f (expr.Sub left right) = binary_pieces f left (codes "-") right
expr_pieces f (expr.Mul left right) = binary_pieces f left (codes "*") right
expr_pieces f (expr.Div left right) = binary_pieces f left (codes "/") right
expr_pieces f (expr.Rem left right) = binary_pieces f left (codes "%") right
expr_pieces f (expr.Eq left right) = binary_pieces f left (codes "=") right
expr_pieces f (expr.Lt left right) = binary_pieces f left (codes "<") right

-- `word r =`
abbrev pub assign_pieces : Function → List ℕ → Reg → List Piece
assign_pieces f word dest = blank word ∷ blank (reg_text f dest) ∷ blank (codes "=") ∷ []

-- `[a]`
abbrev pub cell_pieces : Function → Operand → List Piece
cell_pieces f address = blank (codes "[") ∷ glued (operand_text f address) ∷ glued (codes "]") ∷ []

-- `f(a, b)`
abbrev pub callee_pieces : List Function → Function → FunId → List Operand → List Piece
callee_pieces functions f callee args =
    blank (function_text functions callee) ∷ glued (codes "(") ∷ listed (map (operand_text f) args) ++ glued (codes ")") ∷ []

unfoldable pub instr_pieces : List Function → Function → Instr → List Piece
instr_pieces functions f (instr.Nop next) = blank (codes "nop") ∷ target_pieces f next
instr_pieces functions f (instr.Op dest e next) =
    assign_pieces f (codes "op") dest ++ expr_pieces f e ++ target_pieces f next
instr_pieces functions f (instr.Cond test then_to else_to) =
    blank (codes "cond") ∷ blank (operand_text f test) ∷ target_pieces f then_to ++ after_comma (label_text f else_to)
instr_pieces functions f (instr.Call dest callee args next) =
    assign_pieces f (codes "call") dest ++ callee_pieces functions f callee args ++ target_pieces f next
instr_pieces functions f (instr.Return value) = blank (codes "return") ∷ blank (operand_text f value) ∷ []
instr_pieces functions f (instr.Print value next) =
    blank (codes "print") ∷ blank (operand_text f value) ∷ target_pieces f next
instr_pieces functions f (instr.Load dest address next) =
    assign_pieces f (codes "load") dest ++ cell_pieces f address ++ target_pieces f next
instr_pieces functions f (instr.Store address value next) =
    blank (codes "store") ∷ cell_pieces f address ++ blank (codes "=") ∷ blank (operand_text f value) ∷ target_pieces f next
instr_pieces functions f (instr.Fail text) = blank (codes "fail") ∷ blank (codes "\"" ++ text ++ codes "\"") ∷ []

-- ---- functions

unfoldable pub line_pieces : List Function → Function → Line → List Piece
line_pieces functions f line = feed (decimal line.name) ∷ glued (codes ":") ∷ instr_pieces functions f line.instr

-- the registers that are no parameters, behind a semicolon
abbrev pub others_pieces : List (List ℕ) → List Piece
others_pieces [] = []
others_pieces (name ∷ more) = glued (codes ";") ∷ blank name ∷ flat_map after_comma more

-- `NAME(P, P; R, R) {`
abbrev pub head_pieces : Function → List Piece
head_pieces f =
    blank f.name ∷ glued (codes "(") ∷ listed (take f.params f.regs) ++ others_pieces (drop f.params f.regs) ++ glued (codes ")") ∷ blank (codes "{") ∷ []

-- a function behind its word
unfoldable pub function_pieces : List Function → Function → List Piece
function_pieces functions f = head_pieces f ++ flat_map (line_pieces functions f) f.code ++ feed (codes "}") ∷ []

-- each function begins a line, the first one the text
abbrev pub more_pieces : List Function → Function → List Piece
more_pieces functions f = feed (codes "fun") ∷ function_pieces functions f

abbrev pub functions_pieces : List Function → List Function → List Piece
functions_pieces functions [] = []
functions_pieces functions (f ∷ more) =
    glued (codes "fun") ∷ function_pieces functions f ++ flat_map (more_pieces functions) more

abbrev pub program_pieces : Program → List Piece
program_pieces p = functions_pieces p.functions p.functions

-- ---- scripts

abbrev pub edge_text : Edge → List ℕ
edge_text Then = codes "then"
edge_text Else = codes "else"

abbrev pub reg_in : Option Function → ℕ → List ℕ
reg_in None param = []
reg_in (Some f) param = text_or_none (slice_get f.regs param)

abbrev pub label_in : Option Function → Label → List ℕ
label_in None label = []
label_in (Some f) label = label_text f label

-- the word of a line, and the function's name
abbrev pub word_pieces : List Function → List ℕ → FunId → List Piece
word_pieces functions word function = feed word ∷ blank (function_text functions function) ∷ []

abbrev pub value_piece : ℤ → Piece
value_piece value = blank (signed_decimal value)

abbrev pub named_pieces : List ℕ → ℕ → List Piece
named_pieces word number = blank word ∷ blank (decimal number) ∷ []

unfoldable pub setup_pieces : List Function → Setup → List Piece
setup_pieces functions (Guess function param value) =
    word_pieces functions (codes "guess") function ++ blank (reg_in (slice_get functions function.0) param) ∷ value_piece value ∷ []
setup_pieces functions (Cold function label edge) =
    word_pieces functions (codes "cold") function ++ blank (label_in (slice_get functions function.0) label) ∷ blank (edge_text edge) ∷ []
setup_pieces functions (Warm function level) =
    word_pieces functions (codes "warm") function ++ blank (decimal level) ∷ []

unfoldable pub call_pieces : List Function → ScriptCall → List Piece
call_pieces functions call =
    word_pieces functions (codes "call") call.function ++ map value_piece call.args ++ named_pieces (codes "memory") call.cells
    ++ named_pieces (codes "limit") call.limit

unfoldable pub script_pieces : List Function → Script → List Piece
script_pieces functions s =
    feed (codes "calls") ∷ flat_map (setup_pieces functions) s.setups ++ flat_map (call_pieces functions) s.calls

-- ---- texts: each line ends with a line feed

abbrev pub program_text : Program → List ℕ
program_text p = pieces_text (program_pieces p) ++ 10 ∷ []

abbrev pub input_text : Input → List ℕ
input_text input =
    pieces_text (program_pieces input.checked ++ script_pieces input.checked.functions input.script) ++ 10 ∷ []
