use Rattle.std.proofs.Common.{◌∙◌, ap}
use Rattle.cj_tokens.specs.Left.{left}
use Rattle.cj_tokens.specs.Scan.{lexemes_of}
use Rattle.cj_printer.specs.Canonical.{program_text}
use Rattle.cj_text.proofs.OnlyRead.{same_program, program_not_refused, fails}
use Rattle.cj_text.proofs.ProgramAgain.{has_functions}
use Rattle.cj_text.proofs.again.read_program_back.Goals as goal

pub read_program-requires : goal.read_program-requires
read_program-requires c =
    has_functions (program_text c.args.checked.now) c.args.checked.now (left c.of-tokens.result) c.printed_program_is_read.ensures (c.of-tokens.ensures.left
    ∙ ap lexemes_of (c.as_slice.ensures.value ∙ c.in_ok-text.ensures))

pub returns-in-Ok : goal.returns-in-Ok
returns-in-Ok c =
    same_program (program_text c.args.checked.now) c.args.checked.now c.in-Ok.twin (left c.of-tokens.result) _ c.printed_program_is_read.ensures
    (c.of-tokens.ensures.left ∙ ap lexemes_of (c.as_slice.ensures.value ∙ c.in_ok-text.ensures)) c.in-Ok.ensures.read

pub unreachable-requires : goal.unreachable-requires
unreachable-requires c =
    program_not_refused (program_text c.args.checked.now) c.args.checked.now c.in-Err-Refused.field-0-0
    (left c.of-tokens.result) c.printed_program_is_read.ensures (c.of-tokens.ensures.left
    ∙ ap lexemes_of (c.as_slice.ensures.value ∙ c.in_ok-text.ensures))
    (λ rest past. fails c.in-Err-Refused.field-0 c.in-Err-Refused.field-0-0 _ c.in-Err-Refused.field-0-is (c.in-Err-Refused.ensures.read rest past))
