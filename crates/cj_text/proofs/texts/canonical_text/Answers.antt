use Rattle.std.proofs.Common.{◌∙◌, sym, ap, refl}
use Rattle.cj_printer.specs.Canonical.{input_text}
use Rattle.cj_text.proofs.OnlyRead.{same_input, only_memory}
use Rattle.cj_text.proofs.texts.canonical_text.Goals as goal

pub returns-in-Err-clause-stays : goal.returns-in-Err-clause-stays
returns-in-Err-clause-stays c canonical =
    only_memory c.args.bytes.now canonical.input c.in-Err.error canonical.reads c.in-Err.ensures.only

pub returns-in-Ok-print_input-clause-stays : goal.returns-in-Ok-print_input-clause-stays
returns-in-Ok-print_input-clause-stays c canonical =
    let same = same_input c.args.bytes.now c.args.bytes.now canonical.input c.in-Ok.input refl canonical.reads c.in-Ok.ensures.only in
    c.in-Ok-print_input.ensures ∙ (ap input_text same ∙ sym canonical.text)
