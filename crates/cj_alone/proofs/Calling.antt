-- Calls, one by one, each with its work.
use Rattle.std.proofs.Common.{◌≡◌, ◌∙◌, sym, ap, subst, ℕ, ◌+◌, ◌<◌, List, [], ◌∷◌, ◌++◌, map, length, take, get_or}
use Rattle.std.proofs.lemmas.List.{take_more, map_push}
use Rattle.cj_ir.specs.declared.language.Program.{Program}
use Rattle.cj_ir.specs.declared.script.Setup.{Setup}
use Rattle.cj_ir.specs.declared.script.ScriptCall.{ScriptCall}
use Rattle.cj_base.specs.Run.{Begun, begun}
use Rattle.cj_calls.specs.declared.report.Report.{Report}
use Rattle.cj_publish.specs.Reliable.{IsReliable}
use Rattle.cj_parts.specs.Calls.{Stands}
use Rattle.cj_ir.proofs.Zips.{AllZip-push}
use Rattle.cj_notes.specs.declared.notes.WorkNote.{WorkNote}
use Rattle.cj_records.specs.Items.{setup_items}
use Rattle.cj_records.specs.Loops.{Prepared, RoundsShow}
use Rattle.cj_records.specs.Versions.{HasHeadline}
use Rattle.cj_records.proofs.OneThread.{alone_none, alone_push}
use Rattle.cj_alone.specs.declared.rounds.Progress.{Progress}
use Rattle.cj_alone.specs.Seats.{view_at, reads_at}
use Rattle.cj_alone.specs.Rounds.{RoundMade, RoundsMade}

module _ (P : Program) (start : Progress) where
  -- no call yet
  pub rounds_none : start.reports ≡ [] → IsReliable (view_at start.seats) → RoundsMade P [] start start
  unfolding setup_items
  rounds_none none ok = record {
    headline = subst (HasHeadline P []) (sym none) tt;
    shows = λ (setups : List Setup) (p : Prepared P setups setups start.work (view_at start.seats) (reads_at start.seats)).
        subst (λ (rs : List Report). RoundsShow P setups [] rs start.work (view_at start.seats) (reads_at start.seats)) (sym none)
        (alone_none P setups start.work (view_at start.seats) (reads_at start.seats) ok p.acted.are_warm p.acted.notes p.acted.lookups p.acted.in_parts
        p.alone);
  }

  -- one round more
  pub rounds_push : (calls : List Begun) (call : Begun) (a b : Progress) → RoundsMade P calls start a → RoundMade P call a b → IsReliable (view_at b.seats) →
      RoundsMade P (calls ++ call ∷ []) start b
  rounds_push calls call a b h r ok = record {
    headline = subst (HasHeadline P (calls ++ call ∷ [])) (sym r.reports) (AllZip-push (Stands P) calls a.reports call r.report h.headline r.ran.stands);
    shows = λ (setups : List Setup) (p : Prepared P setups setups start.work (view_at start.seats) (reads_at start.seats)).
        subst (λ (rs : List Report). RoundsShow P setups (calls ++ call ∷ []) rs b.work (view_at b.seats) (reads_at b.seats)) (sym r.reports)
        (subst (λ (ns : List WorkNote). RoundsShow P setups (calls ++ call ∷ []) (a.reports ++ r.report ∷ []) ns (view_at b.seats) (reads_at b.seats))
        (sym r.work)
        (alone_push P setups calls a.reports a.work (view_at a.seats) r.view (view_at b.seats) (reads_at a.seats) r.reads
        (reads_at b.seats) call r.report r.note (h.shows setups p) r.ran r.worked ok));
  }

  -- a loop's step
  pub rounds_more : (calls : List ScriptCall) (i : ℕ) (call : ScriptCall) (a b : Progress) → i < length calls → call ≡ get_or calls i call
      → RoundsMade P (map begun (take i calls)) start a → RoundMade P (begun call) a b → IsReliable (view_at b.seats) →
      RoundsMade P (map begun (take (i + 1) calls)) start b
  rounds_more calls i call a b within is h r ok =
      let more : take (i + 1) calls ≡ take i calls ++ call ∷ [] = rw (← is) at (take_more calls i call within) in
      subst (λ (cs : List Begun). RoundsMade P cs start b) (sym (ap (map begun) more ∙ map_push begun (take i calls) call))
      (rounds_push (map begun (take i calls)) (begun call) a b h r ok)
