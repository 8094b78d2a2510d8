use Rattle.std.proofs.Common.{refl}
use Rattle.cj_grammar.specs.Rules.{operand, more_operands, operands, more_names, names, binary, expr, target, nop_instr, op_instr, cond_instr, call_instr}
use Rattle.cj_grammar.specs.Rules.{return_instr, print_instr, load_instr, store_instr, fail_instr, instr, line, lines, head, fun, more_funs, funs, guess_setup}
use Rattle.cj_grammar.specs.Rules.{edge, cold_setup, warm_setup, setup, setups, numbers, begun, script_call, script_calls, script, input}
use Rattle.cj_grammar.proofs.input_is_plain.Goals as goal

pub returns : goal.returns
unfolding operand more_operands operands more_names names binary expr target nop_instr op_instr cond_instr call_instr return_instr print_instr load_instr
    store_instr fail_instr instr line lines head fun more_funs funs guess_setup edge cold_setup warm_setup setup setups numbers begun script_call script_calls
    script input
returns c = refl
