-- What stands behind the functions of a text.
use Rattle.std.proofs.Common.{◌≡◌, List, [], ◌∷◌, Ok, refl, ap, sym, ◌∙◌, subst}
use Rattle.cj_ir.specs.declared.language.Program.{Program}
use Rattle.cj_tokens.specs.Ends.{HasOneEnd}
use Rattle.cj_tokens.specs.Lexemes.{Lexeme}
use Rattle.cj_tokens.specs.declared.refusal.Refused.{Refused}
use Rattle.cj_grammar.specs.Rules.{operand, more_operands, operands, more_names, names, binary, expr, target, nop_instr, op_instr, cond_instr, call_instr}
use Rattle.cj_grammar.specs.Rules.{return_instr, print_instr, load_instr, store_instr, fail_instr, instr, line, lines, head, fun, more_funs, funs}
use Rattle.cj_grammar.specs.Readers.{reads}
use Rattle.cj_grammar.specs.Shapes.{HasFunctions}
use Rattle.cj_grammar.proofs.ContentsLaws.{end_stays}
use Rattle.cj_reader.specs.Meaning.{program_offences, program_of}
use Rattle.cj_reader.specs.Reading.{program_at}
use Rattle.cj_reader.proofs.FineProgram.{program_is}

left_behind : (es : List Refused) (meant program : Program) (rest us : List Lexeme) → reads es meant rest ≡ Ok (program, us) → rest ≡ us
left_behind [] meant program rest us h =
    let same : (meant, rest) ≡ (program, us) = cc in
    ap (λ (p : Program × List Lexeme). p.1) same
left_behind (e ∷ es) meant program rest us h = cc

-- the end stands last there too
pub end_behind : (ts : List Lexeme) (program : Program) (us : List Lexeme) → HasFunctions ts → program_at ts ≡ Ok (program, us) → HasOneEnd ts → HasOneEnd us
unfolding operand more_operands operands more_names names binary expr target nop_instr op_instr cond_instr call_instr return_instr print_instr load_instr
    store_instr fail_instr instr line lines head fun more_funs funs
end_behind ts program us has h e =
    let same : has.0 ≡ us = left_behind (program_offences has.1.tree) (program_of has.1.tree) program has.0 us (sym (program_is ts has.0 has.1) ∙ h) in
    subst (λ (xs : List Lexeme). HasOneEnd xs) same (end_stays funs has.1.tree ts has.0 refl has.1.all e)
