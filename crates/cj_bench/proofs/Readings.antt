-- What the text of a generated input is read as.
use Rattle.std.proofs.Common.{◌≡◌, ℕ, Result, Ok}
use Rattle.cj_ir.specs.WellFormed.{IsWellFormed}
use Rattle.cj_ir.specs.declared.script.Input.{Input}
use Rattle.cj_tokens.specs.declared.refusal.Refused.{Refused}
use Rattle.cj_script.specs.Fitting.{FitsScript}
use Rattle.cj_text.specs.Reads.{Reads}
use Rattle.cj_text.proofs.InputAgain.{printed_is_read}
use Rattle.cj_text.proofs.OneReading.{only_reading}
use Rattle.cj_bench.specs.Generated.{generated, generated_text}
use Rattle.cj_bench.proofs.Fine.{well_formed, script_fits}
use Rattle.cj_bench.proofs.Written.{program_written, script_written}

pub input_well_formed : (number : ℕ) → IsWellFormed (generated number).checked
unfolding generated
input_well_formed number = well_formed number

pub input_fits : (number : ℕ) → FitsScript (generated number).checked (generated number).script
unfolding generated
input_fits number = script_fits number

pub text_reads : (number : ℕ) → Reads (generated_text number) (Ok (generated number))
unfolding generated generated_text
text_reads number =
    printed_is_read (generated number) (well_formed number) (program_written number) (script_fits number) (script_written number)

pub text_reads_only : (number : ℕ) (answer : Result Input Refused) → Reads (generated_text number) answer → answer ≡ Ok (generated number)
text_reads_only number answer reads =
    only_reading (generated_text number) (generated number) (text_reads number) answer reads
