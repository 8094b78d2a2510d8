-- A report, its marks and its part stay the same when code is added.
use Rattle.std.proofs.Common.{◌≡◌, ◌≢◌, ◌∙◌, sym, ap, subst, List, [], ◌∷◌, append-nil, Some, None}
use Rattle.std.specs.List.{AllZip}
use Rattle.cj_ir.specs.declared.language.Program.{Program}
use Rattle.cj_base.specs.Run.{Begun}
use Rattle.cj_calls.specs.declared.report.Look.{Look}
use Rattle.cj_calls.specs.declared.report.Report.{Report}
use Rattle.cj_machine.specs.Versions.{Codes, Progress, Undefined}
use Rattle.cj_machine.specs.VersionRuns.{version_run, report_at, version_report}
use Rattle.cj_machine.specs.Marks.{Mark, run_marks}
use Rattle.cj_machine.specs.CodeMaps.{Grows}
use Rattle.cj_machine.proofs.Runs.{report_kept}
use Rattle.cj_machine.proofs.RunMarks.{marks_later}
use Rattle.cj_profile.specs.declared.view.Read.{Read}
use Rattle.cj_parts.specs.Parts.{InParts, MarkPart}
use Rattle.cj_parts.specs.Calls.{IsV, CallPart}

-- a run that gives a report is defined
defined : (trail : List Look) (o : Progress) (r : Report) → report_at trail o ≡ Some r → o ≢ Undefined
unfolding report_at
defined trail o r e none = let never : None ≡ Some r = ap (report_at trail) (sym none) ∙ e in absurd cc

pub zip_weaker : {A B : Type 0} (R S : A → B → Type 0) → ((x : A) (y : B) → R x y → S x y) → (xs : List A) (ys : List B) → AllZip R xs ys → AllZip S xs ys
zip_weaker R S f [] [] h = h
zip_weaker R S f [] (b ∷ ys) h = absurd h
zip_weaker R S f (a ∷ xs) [] h = absurd h
zip_weaker R S f (a ∷ xs) (b ∷ ys) h = (f a b h.0, zip_weaker R S f xs ys h.1)

module _ (P : Program) (codes later : Codes) (g : Grows codes later) where
  pub v_grows : (call : Begun) (r : Report) → IsV P codes call r → IsV P later call r
  v_grows call r h = report_kept P call codes later r.looks r g h

  pub marks_grow : (call : Begun) (r : Report) → IsV P codes call r → run_marks P later r.looks call call.limit ≡ run_marks P codes r.looks call call.limit
  unfolding version_report
  marks_grow call r h =
      subst (λ (trail : List Look). run_marks P later trail call call.limit ≡ run_marks P codes r.looks call call.limit) (append-nil r.looks)
      (marks_later P call codes later g r.looks [] call.limit (defined r.looks (version_run P codes r.looks call call.limit) r h))

  pub call_grows : (call : Begun) (r : Report) (rs : List Read) → CallPart P codes call r rs → CallPart P later call r rs
  call_grows call r rs h = record {
    run = v_grows call r h.run;
    reads = subst (λ (ms : List Mark). InParts MarkPart ms rs) (sym (marks_grow call r h.run)) h.reads;
  }
