-- The summary of reports: five lines, each of a word and a number, and a line feed at its end.
use Rattle.std.specs.Prelude.{ℕ, ℤ, pos, ◌+ℤ◌, List, [], ◌∷◌, ◌++◌, length, Option, Some, None, filter_map, sum_by, codes, decimal}
use Rattle.std.specs.Fmt.{signed_decimal}
use Rattle.cj_ir.specs.Values.{wrap}
use Rattle.cj_base.specs.declared.machine.End.{End}
use Rattle.cj_base.specs.declared.machine.End.TheVariants.{Returned, Failed, Address, Divide, TurnLimit}
use Rattle.cj_calls.specs.declared.report.Report.{Report}

-- the value that an end returns, if it does
abbrev pub value_of_end : End → Option ℤ
value_of_end (Returned v) = Some v
value_of_end (Failed f l) = None
value_of_end (Address a) = None
value_of_end Divide = None
value_of_end TurnLimit = None

-- the returned values, in order
unfoldable pub returned : List Report → List ℤ
returned reports = filter_map (λ report. value_of_end report.end) reports

-- how many prints there are in all
unfoldable pub print_count : List Report → ℕ
print_count reports = sum_by (λ report. length report.printed) reports

-- the sum
unfoldable pub total : List ℤ → ℤ
total [] = pos 0
total (v ∷ vs) = v +ℤ total vs

abbrev pub summary_line : List ℕ → List ℕ → List ℕ
summary_line word number = word ++ codes " " ++ number ++ codes "\n"

-- the number that was run, and then how many reports there are, how many of them returned, how many prints there
-- are, and the sum of the returned values, wrapped modulo 2^64 as in the language
unfoldable pub summary_text : ℕ → List Report → List ℕ
summary_text number reports =
    summary_line (codes "bench") (decimal number)
    ++ summary_line (codes "calls") (decimal (length reports))
    ++ summary_line (codes "returns") (decimal (length (returned reports)))
    ++ summary_line (codes "prints") (decimal (print_count reports))
    ++ summary_line (codes "sum") (signed_decimal (wrap (total (returned reports))))
