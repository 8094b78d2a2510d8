use Rattle.std.proofs.Common.{◌∙◌, subst, Err}
use Rattle.cj_text.specs.Answers.{IsOnlyReading}
use Rattle.cj_printer.specs.Canonical.{input_text}
use Rattle.cj_text.proofs.OnlyRead.{same_input, not_refused}
use Rattle.cj_text.proofs.again.read_back.Goals as goal

pub returns-in-Ok : goal.returns-in-Ok
returns-in-Ok c =
    same_input c.as_slice.result.now (input_text c.args.input.now) c.args.input.now c.in-Ok.again (c.as_slice.ensures.value
    ∙ c.in_ok-text.ensures) c.printed_is_read.ensures.reads c.in-Ok.ensures.only

pub unreachable-requires : goal.unreachable-requires
unreachable-requires c =
    not_refused c.as_slice.result.now (input_text c.args.input.now) c.args.input.now c.in-Err-Refused.field-0-0 (c.as_slice.ensures.value
    ∙ c.in_ok-text.ensures) c.printed_is_read.ensures.reads
    (subst (λ e. IsOnlyReading c.as_slice.result.now (Err e)) c.in-Err-Refused.field-0-is c.in-Err-Refused.ensures.only)
