-- Instructions: what they mean, and the offences of their tokens.
use Rattle.std.specs.Prelude.{ℕ, List, [], ◌∷◌, ◌++◌, length, not, Option, None, Some, map, flat_map, suc, nat_lt, ◌==◌, unwrap_or, option_map}
use Rattle.cj_ir.specs.declared.language.FunId.{FunId}
use Rattle.cj_ir.specs.declared.language.Operand.{Operand}
use Rattle.cj_ir.specs.declared.language.Instr.{Instr}
use Rattle.cj_ir.specs.declared.language.Instr.TheVariants.{Nop, Op, Cond, Call, Return, Print, Load, Store, Fail}
use Rattle.cj_tokens.specs.Lexemes.{Lexeme}
use Rattle.cj_tokens.specs.declared.refusal.Kind.TheVariants.{TooMany, NoFunction, Arguments}
use Rattle.cj_tokens.specs.declared.refusal.Refused.{Refused}
use Rattle.cj_grammar.specs.Grammar.{Tree, opt}
use Rattle.cj_grammar.specs.Rules.{operands, more_operands, nop_instr, op_instr, cond_instr, call_instr, return_instr, print_instr, load_instr, store_instr}
use Rattle.cj_grammar.specs.Rules.{fail_instr, instr}
use Rattle.cj_grammar.specs.Alternatives.{of_instr}
use Rattle.cj_grammar.specs.Reading.{offence, offends_if}
use Rattle.cj_reader.specs.declared.scope.Callee.{Callee}
use Rattle.cj_reader.specs.Scopes.{Scope}
use Rattle.cj_reader.specs.Operands.{is_long, register_offences, register_of, label_offences, label_of, target_offences, target_of, operand_offences}
use Rattle.cj_reader.specs.Operands.{operand_of, expr_offences, expr_of}
use Rattle.cj_ir.specs.declared.limits.TheConstants.{MAX_TEXT}

-- ---- calls

unfoldable pub arguments_offences : Scope → Tree (opt operands) → List Refused
unfolding operands more_operands
arguments_offences s None = []
arguments_offences s (Some (first, more)) =
    operand_offences s first ++ flat_map (λ (comma, next). operand_offences s next) more

unfoldable pub arguments_of : Scope → Tree (opt operands) → List Operand
unfolding operands more_operands
arguments_of s None = []
arguments_of s (Some (first, more)) = operand_of s first ∷ map (λ (comma, next). operand_of s next) more

unfoldable pub argument_count : Tree (opt operands) → ℕ
unfolding operands more_operands
argument_count None = 0
argument_count (Some (first, more)) = suc (length more)

-- no function has the name; or it has another number of parameters
abbrev pub count_offences : Lexeme → ℕ → Option Callee → List Refused
count_offences t count None = offence t NoFunction ∷ []
count_offences t count (Some callee) = offends_if (not (callee.params == count)) t Arguments

-- a NAME that is called with so many arguments
abbrev pub callee_offences : Scope → Lexeme → ℕ → List Refused
callee_offences s t count = offends_if (is_long t) t TooMany ++ count_offences t count (s.function_at t.text)

abbrev pub callee_of : Scope → Lexeme → FunId
callee_of s t = unwrap_or (option_map (λ callee. callee.function) (s.function_at t.text)) (record { 0 = 0 })

-- ---- texts

-- a TEXT of too many bytes
abbrev pub text_offences : Lexeme → List Refused
text_offences t = offends_if (nat_lt MAX_TEXT (length t.text)) t TooMany

-- ---- instructions, their parts in the order of the text

unfoldable pub nop_offences : Scope → Tree nop_instr → List Refused
unfolding nop_instr
nop_offences s (word, next) = target_offences s next

unfoldable pub nop_of : Scope → Tree nop_instr → Instr
unfolding nop_instr
nop_of s (word, next) = Nop (target_of s next)

unfoldable pub op_offences : Scope → Tree op_instr → List Refused
unfolding op_instr
op_offences s (word, (dest, (equals, (value, next)))) =
    register_offences s dest.token ++ (expr_offences s value ++ target_offences s next)

unfoldable pub op_of : Scope → Tree op_instr → Instr
unfolding op_instr
op_of s (word, (dest, (equals, (value, next)))) =
    Op (register_of s dest.token) (expr_of s value) (target_of s next)

unfoldable pub cond_offences : Scope → Tree cond_instr → List Refused
unfolding cond_instr
cond_offences s (word, (test, (then_to, (comma, else_to)))) =
    operand_offences s test ++ (target_offences s then_to ++ label_offences s else_to.token)

unfoldable pub cond_of : Scope → Tree cond_instr → Instr
unfolding cond_instr
cond_of s (word, (test, (then_to, (comma, else_to)))) =
    Cond (operand_of s test) (target_of s then_to) (label_of s else_to.token)

unfoldable pub call_offences : Scope → Tree call_instr → List Refused
unfolding call_instr
call_offences s (word, (dest, (equals, (callee, (left, (arguments, (right, next))))))) =
    register_offences s dest.token ++ (callee_offences s callee.token (argument_count arguments) ++ (arguments_offences s arguments ++ target_offences s next))

unfoldable pub call_of : Scope → Tree call_instr → Instr
unfolding call_instr
call_of s (word, (dest, (equals, (callee, (left, (arguments, (right, next))))))) =
    Call (register_of s dest.token) (callee_of s callee.token) (arguments_of s arguments) (target_of s next)

unfoldable pub return_offences : Scope → Tree return_instr → List Refused
unfolding return_instr
return_offences s (word, value) = operand_offences s value

unfoldable pub return_of : Scope → Tree return_instr → Instr
unfolding return_instr
return_of s (word, value) = Return (operand_of s value)

unfoldable pub print_offences : Scope → Tree print_instr → List Refused
unfolding print_instr
print_offences s (word, (value, next)) = operand_offences s value ++ target_offences s next

unfoldable pub print_of : Scope → Tree print_instr → Instr
unfolding print_instr
print_of s (word, (value, next)) = Print (operand_of s value) (target_of s next)

unfoldable pub load_offences : Scope → Tree load_instr → List Refused
unfolding load_instr
load_offences s (word, (dest, (equals, (left, (address, (right, next)))))) =
    register_offences s dest.token ++ (operand_offences s address ++ target_offences s next)

unfoldable pub load_of : Scope → Tree load_instr → Instr
unfolding load_instr
load_of s (word, (dest, (equals, (left, (address, (right, next)))))) =
    Load (register_of s dest.token) (operand_of s address) (target_of s next)

unfoldable pub store_offences : Scope → Tree store_instr → List Refused
unfolding store_instr
store_offences s (word, (left, (address, (right, (equals, (value, next)))))) =
    operand_offences s address ++ (operand_offences s value ++ target_offences s next)

unfoldable pub store_of : Scope → Tree store_instr → Instr
unfolding store_instr
store_of s (word, (left, (address, (right, (equals, (value, next)))))) =
    Store (operand_of s address) (operand_of s value) (target_of s next)

unfoldable pub fail_offences : Tree fail_instr → List Refused
unfolding fail_instr
fail_offences (word, text) = text_offences text.token

unfoldable pub fail_of : Tree fail_instr → Instr
unfolding fail_instr
fail_of (word, text) = Fail text.token.text

unfoldable pub instr_offences : Scope → Tree instr → List Refused
instr_offences s =
    of_instr (record {
      nop = nop_offences s;
      op = op_offences s;
      cond = cond_offences s;
      call = call_offences s;
      return = return_offences s;
      print =
          print_offences s;
      load = load_offences s;
      store = store_offences s;
      fail = fail_offences;
    })

unfoldable pub instr_of : Scope → Tree instr → Instr
instr_of s =
    of_instr (record {
      nop = nop_of s;
      op = op_of s;
      cond = cond_of s;
      call = call_of s;
      return = return_of s;
      print = print_of s;
      load = load_of s;
      store =
          store_of s;
      fail = fail_of;
    })
