use Rattle.std.proofs.Common.{◌≡◌, ◌∙◌, ◌++◌, ◌+◌, ap, sym, length, ◌≤◌, arith, List, ℕ, drop, get_or}
use Rattle.cj_ir.specs.declared.language.Program.{Program}
use Rattle.cj_calls.specs.declared.report.Report.{Report}
use Rattle.cj_calls.specs.Output.{report_text, reports_text, texts_from}
use Rattle.cj_calls.proofs.Texts.{texts_turn, texts_end}
use Rattle.cj_calls.proofs.text.text_of.Goals as goal

pub loop-place-preserved : goal.loop-place-preserved
loop-place-preserved c =
    let P : Program = c.args.checked.now in
    let rs : List Report = c.items-report-items.result.now in
    let i : ℕ = c.loop-place.place in
    let r : Report = c.report-item.result in
    let step : c.push_report.new.text.items ≡ c.loop-place.text.items ++ report_text P c.args.stats (i + 1) (get_or rs i r) =
    c.in_ok-push_report.ensures
    ∙ ap (λ (p : Program). c.loop-place.text.items ++ report_text p c.args.stats (i + 1) r) c.program.ensures.same
    ∙ ap (λ (x : Report). c.loop-place.text.items ++ report_text P c.args.stats (i + 1) x) c.report-item.is
    in
    texts_turn P c.args.stats c.loop-place.text.items c.push_report.new.text.items _ rs i r c.loop-place-test.true c.loop-place.invariant step

pub returns : goal.returns
returns c =
    let rs : List Report = c.items-report-items.result.now in
    let past : length rs ≤ c.loop-place.place = omega arith in
    texts_end c.args.checked.now c.args.stats c.loop-place.text.items _ rs c.loop-place.place past c.loop-place.invariant
