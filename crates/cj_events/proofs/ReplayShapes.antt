-- What the reader over whole replays leaves, in the grammar's words.
use Rattle.std.proofs.Common.{◌≡◌, List, Ok, Err, refl}
use Rattle.cj_tokens.specs.Ends.{HasOneEnd}
use Rattle.cj_tokens.specs.Lexemes.{Lexeme}
use Rattle.cj_tokens.specs.Passing.{front}
use Rattle.cj_grammar.specs.Grammar.{IsSentence}
use Rattle.cj_grammar.specs.OneAhead.{eat}
use Rattle.cj_grammar.specs.Reading.{offence}
use Rattle.cj_grammar.specs.Rules.{operand, more_operands, operands, more_names, names, binary, expr, target, nop_instr, op_instr, cond_instr, call_instr}
use Rattle.cj_grammar.specs.Rules.{return_instr, print_instr, load_instr, store_instr, fail_instr, instr, line, lines, head, fun, more_funs, funs, numbers}
use Rattle.cj_grammar.specs.Rules.{begun}
use Rattle.cj_grammar.specs.Offences.{class_one, IsFirstOffence}
use Rattle.cj_grammar.proofs.ClassOne.{first_offence, whole_sentence}
use Rattle.cj_events.specs.Rules.{labels, equation, guard, more_guards, guards, anchors_pass, assume_pass, delay_pass, const_pass, inline_pass, any_pass}
use Rattle.cj_events.specs.Rules.{passes, begin_event, step_event, compile_event, event, events, history, replay}

pub replay_offence : (old rest : List Lexeme) → HasOneEnd old → eat replay old ≡ Err rest →
    IsFirstOffence replay old (offence (front rest) (class_one (front rest)))
unfolding operand more_operands operands more_names names binary expr target nop_instr op_instr cond_instr call_instr return_instr print_instr load_instr
    store_instr fail_instr instr line lines head fun more_funs funs numbers begun labels equation guard more_guards guards anchors_pass assume_pass delay_pass
    const_pass inline_pass any_pass passes begin_event step_event compile_event event events history replay
replay_offence old rest h e = first_offence replay old rest refl refl h e

pub replay_whole : (old rest : List Lexeme) → HasOneEnd old → eat replay old ≡ Ok rest → IsSentence replay old
unfolding replay
replay_whole old rest h e = whole_sentence replay old rest refl h e
