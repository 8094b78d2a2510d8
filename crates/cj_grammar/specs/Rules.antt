-- The grammar of programs and scripts. The end of the input is a token like another, the last one.
use Rattle.cj_tokens.specs.Lexemes.{Is}
use Rattle.cj_grammar.specs.Grammar.{Rule, tok, seq, alt, opt, many}
use Rattle.cj_tokens.specs.declared.terminal.Terminal.{Terminal}
use Rattle.cj_tokens.specs.declared.terminal.Terminal.TheVariants as terminal

abbrev pub one : Terminal → Rule
one k = tok (Is k)

infixr 10 ◌▸◌
abbrev pub ◌▸◌ : Rule → Rule → Rule
p ▸ q = seq p q

infixr 9 ◌∣◌
abbrev pub ◌∣◌ : Rule → Rule → Rule
p ∣ q = alt p q

-- ---- functions

unfoldable pub operand : Rule
operand = one terminal.Name ∣ one terminal.Number

unfoldable pub more_operands : Rule
more_operands = many (one terminal.Comma ▸ operand)

unfoldable pub operands : Rule
operands = operand ▸ more_operands

unfoldable pub more_names : Rule
more_names = many (one terminal.Comma ▸ one terminal.Name)

unfoldable pub names : Rule
names = one terminal.Name ▸ more_names

unfoldable pub binary : Rule
binary =
    one terminal.Plus ∣ one terminal.Minus ∣ one terminal.Star ∣ one terminal.Slash ∣ one terminal.Percent ∣ one terminal.Equals ∣ one terminal.Less

unfoldable pub expr : Rule
expr = (one terminal.Neg ▸ operand) ∣ (one terminal.Eqz ▸ operand) ∣ (operand ▸ opt (binary ▸ operand))

unfoldable pub target : Rule
target = one terminal.Arrow ▸ one terminal.Number

unfoldable pub nop_instr : Rule
nop_instr = one terminal.Nop ▸ target

unfoldable pub op_instr : Rule
op_instr = one terminal.Op ▸ one terminal.Name ▸ one terminal.Equals ▸ expr ▸ target

unfoldable pub cond_instr : Rule
cond_instr = one terminal.Cond ▸ operand ▸ target ▸ one terminal.Comma ▸ one terminal.Number

unfoldable pub call_instr : Rule
call_instr =
    one terminal.Call ▸ one terminal.Name ▸ one terminal.Equals ▸ one terminal.Name ▸ one terminal.OpenParen ▸ opt operands ▸ one terminal.CloseParen ▸ target

unfoldable pub return_instr : Rule
return_instr = one terminal.Return ▸ operand

unfoldable pub print_instr : Rule
print_instr = one terminal.Print ▸ operand ▸ target

unfoldable pub load_instr : Rule
load_instr =
    one terminal.Load ▸ one terminal.Name ▸ one terminal.Equals ▸ one terminal.OpenBracket ▸ operand ▸ one terminal.CloseBracket ▸ target

unfoldable pub store_instr : Rule
store_instr =
    one terminal.Store ▸ one terminal.OpenBracket ▸ operand ▸ one terminal.CloseBracket ▸ one terminal.Equals ▸ operand ▸ target

unfoldable pub fail_instr : Rule
fail_instr = one terminal.Fail ▸ one terminal.Text

unfoldable pub instr : Rule
instr =
    nop_instr ∣ op_instr ∣ cond_instr ∣ call_instr ∣ return_instr ∣ print_instr ∣ load_instr ∣ store_instr ∣ fail_instr

unfoldable pub line : Rule
line = one terminal.Number ▸ one terminal.Colon ▸ instr

unfoldable pub lines : Rule
lines = many line

unfoldable pub head : Rule
head =
    one terminal.Fun ▸ one terminal.Name ▸ one terminal.OpenParen ▸ opt names ▸ opt (one terminal.Semicolon ▸ names) ▸ one terminal.CloseParen

unfoldable pub fun : Rule
fun = head ▸ one terminal.OpenBrace ▸ lines ▸ one terminal.CloseBrace

unfoldable pub more_funs : Rule
more_funs = many fun

unfoldable pub funs : Rule
funs = fun ▸ more_funs

-- ---- scripts

unfoldable pub guess_setup : Rule
guess_setup = one terminal.Guess ▸ one terminal.Name ▸ one terminal.Name ▸ one terminal.Number

unfoldable pub edge : Rule
edge = one terminal.Then ∣ one terminal.Else

unfoldable pub cold_setup : Rule
cold_setup = one terminal.Cold ▸ one terminal.Name ▸ one terminal.Number ▸ edge

unfoldable pub warm_setup : Rule
warm_setup = one terminal.Warm ▸ one terminal.Name ▸ one terminal.Number

unfoldable pub setup : Rule
setup = guess_setup ∣ cold_setup ∣ warm_setup

unfoldable pub setups : Rule
setups = many setup

unfoldable pub numbers : Rule
numbers = many (one terminal.Number)

-- what begins a run, behind its first word: the function, the arguments, the cells and the limit
unfoldable pub begun : Rule
begun =
    one terminal.Name ▸ numbers ▸ opt (one terminal.Memory ▸ one terminal.Number) ▸ one terminal.Limit ▸ one terminal.Number

unfoldable pub script_call : Rule
script_call = one terminal.Call ▸ begun

unfoldable pub script_calls : Rule
script_calls = many script_call

unfoldable pub script : Rule
script = one terminal.Calls ▸ setups ▸ script_calls

-- a program with a script, to the end
unfoldable pub input : Rule
input = funs ▸ script ▸ one terminal.End
