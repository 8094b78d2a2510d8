-- The text of reports. Each line ends with a line feed.
use Rattle.std.specs.Prelude.{ℕ, ◌+◌, ℤ, Bool, List, [], ◌∷◌, ◌++◌, Option, Some, None, flat_map, codes, decimal, if◌then◌else◌}
use Rattle.std.specs.Fmt.{signed_decimal}
use Rattle.cj_ir.specs.Program.{instr_at}
use Rattle.cj_ir.specs.declared.language.FunId.{FunId}
use Rattle.cj_ir.specs.declared.language.Label.{Label}
use Rattle.cj_ir.specs.declared.language.Program.{Program}
use Rattle.cj_ir.specs.declared.language.Instr.{Instr}
use Rattle.cj_ir.specs.declared.language.Instr.TheVariants as instr
use Rattle.cj_base.specs.declared.machine.End.{End}
use Rattle.cj_base.specs.declared.machine.End.TheVariants as «end»
use Rattle.cj_calls.specs.declared.report.Report.{Report}

-- the text of a `fail` instruction
abbrev pub fail_text : Option Instr → List ℕ
fail_text (Some (instr.Fail text)) = text
fail_text other = []

unfoldable pub prints_text : List ℤ → List ℕ
prints_text printed = flat_map (λ v. signed_decimal v ++ codes "\n") printed

unfoldable pub end_text : Program → End → List ℕ
end_text p («end».Returned v) = codes "return " ++ signed_decimal v ++ codes "\n"
end_text p («end».Failed f l) = codes "fail \"" ++ fail_text (instr_at p f l) ++ codes "\"\n"
end_text p («end».Address a) = codes "fault address " ++ signed_decimal a ++ codes "\n"
end_text p «end».Divide = codes "fault divide\n"
end_text p «end».TurnLimit = codes "turn limit\n"

unfoldable pub stats_text : Report → List ℕ
stats_text r =
    codes "turns " ++ decimal r.turns ++ codes " base " ++ decimal r.base_turns ++ codes " fails " ++ decimal r.fails ++ codes "\n"

-- the report with that number: its call, its prints, its end, and its counts where they are asked for
unfoldable pub report_text : Program → Bool → ℕ → Report → List ℕ
report_text p stats k r =
    codes "call " ++ decimal k ++ codes "\n" ++ prints_text r.printed ++ end_text p r.end ++ (if stats then stats_text r else [])

-- reports one after the other, numbered from k on
unfoldable pub texts_from : Program → Bool → ℕ → List Report → List ℕ
texts_from p stats k [] = []
texts_from p stats k (r ∷ rs) = report_text p stats k r ++ texts_from p stats (k + 1) rs

-- the text of reports, which are numbered from 1
abbrev pub reports_text : Program → List Report → Bool → List ℕ
reports_text p reports stats = texts_from p stats 1 reports
