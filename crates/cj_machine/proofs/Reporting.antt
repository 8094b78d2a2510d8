-- Every report of the versioned machine agrees with the base run of its call.
use Rattle.std.proofs.Common.{◌≡◌, ◌≢◌, ℕ, zero, suc, ◌+◌, ◌*◌, ◌≤◌, ◌==◌, Bool, true, false, List, [], length, Option, Some, None, refl, subst, arith}
use Rattle.std.specs.Prelude.{ℤ, slice_get, IfSome, if◌then◌else◌}
use Rattle.cj_ir.specs.WellFormed.{IsWellFormed, Takes}
use Rattle.cj_ir.specs.declared.language.Program.{Program}
use Rattle.cj_base.specs.declared.machine.End.{End}
use Rattle.cj_base.specs.declared.machine.End.TheVariants.{Returned, Failed, Address, Divide, TurnLimit}
use Rattle.cj_base.specs.Machine.{Stack, over, entry_regs, entry_frame}
use Rattle.cj_base.specs.Run.{Begun, start_of, base_run, Over, RunAt, EndStands}
use Rattle.cj_base.proofs.RunLemmas.{going_before, ends_once}
use Rattle.cj_base.proofs.Segments.{run_begins, run_same}
use Rattle.cj_draft.specs.Points.{frames_of}
use Rattle.cj_draft.specs.Sound.{Resumes}
use Rattle.cj_calls.specs.declared.report.Look.{Look}
use Rattle.cj_calls.specs.declared.report.Report.{Report}
use Rattle.cj_calls.specs.Reports.{EndOwed, NotesStand, ReportStands, IsWhole}
use Rattle.cj_activations.specs.Activations.{VersionFrame, Active, InBase, InVersion}
use Rattle.cj_machine.specs.Versions.{State, Codes, Progress, Continues, Finishes, Undefined, version_entry}
use Rattle.cj_machine.specs.VersionRuns.{first_state, begins_in, version_start, one_turn_more, version_run, report_of, if_used, report_at, version_report}
use Rattle.cj_machine.specs.CodeMaps.{SoundCodes}
use Rattle.cj_machine.specs.Stands.{versions_on_top, Stands, HasEnded, Holds}
use Rattle.cj_machine.proofs.Counting.{counts_first, counts_bound}
use Rattle.cj_machine.proofs.Entries.{by_entry}
use Rattle.cj_machine.proofs.Turns.{turn_holds, own_backs, top_at, no_context}
use Rattle.cj_machine.proofs.Runs.{HasTurns, run_has_turns}

-- a base run that ended agrees with a report of its end
ended_owed : (P : Program) (call : Begun) (r : Report) (end : End) → end ≢ TurnLimit → EndStands P call r.base_turns r.printed end → EndOwed P call r end
ended_owed P call r (Returned v) other stands = stands
ended_owed P call r (Failed f l) other stands = stands
ended_owed P call r (Address a) other stands = stands
ended_owed P call r Divide other stands = stands
ended_owed P call r TurnLimit other stands = absurd (other refl)

-- where the base run ended within a limit that is large enough, what is owed at the end is its end
owed_whole : (P : Program) (call : Begun) (r : Report) (end : End) → r.turns ≤ 45 * (r.base_turns + 1) → EndOwed P call r end →
    (n : ℕ) (printed : List ℤ) (by : End) → base_run P call n ≡ Over printed by n → 45 * (n + 1) ≤ call.limit → (r.printed ≡ printed) × (end ≡ by)
owed_whole P call r (Returned v) bound owed n printed by over within =
    let same = ends_once P call r.base_turns n r.printed printed (Returned v) by owed over in
    (same.1, same.2)
owed_whole P call r (Failed f l) bound owed n printed by over within =
    let same = ends_once P call r.base_turns n r.printed printed (Failed f l) by owed over in
    (same.1, same.2)
owed_whole P call r (Address a) bound owed n printed by over within =
    let same = ends_once P call r.base_turns n r.printed printed (Address a) by owed over in
    (same.1, same.2)
owed_whole P call r Divide bound owed n printed by over within =
    let same = ends_once P call r.base_turns n r.printed printed Divide by owed over in
    (same.1, same.2)
owed_whole P call r TurnLimit bound owed n printed by over within =
    let before = going_before P call r.base_turns n n printed r.printed owed.1.0 by owed.1.1 over in
    let limit : r.turns ≡ call.limit = owed.0 in
    absurd (omega arith)

-- a report that stands is whole
pub stands_whole : (P : Program) (call : Begun) (r : Report) → ReportStands P call r → IsWhole P call r
stands_whole P call r stands n printed by over within = owed_whole P call r r.end stands.bound stands.end n printed by over within

no_notes : (P : Program) (call : Begun) → NotesStand P call []
no_notes P call note i = absurd (omega (arith, i.1))

module _ (P : Program) (codes : Codes) (call : Begun) (formed : IsWellFormed P) (sound : SoundCodes P codes) where
  -- the start stands for the start
  pub start_holds : (look : Option Look) → Takes P.functions call.function (length call.args) → Holds P codes call (version_start P codes look call)
  unfolding version_start begins_in first_state start_of over version_entry versions_on_top
  start_holds look takes =
      let stack : Stack = record { top = entry_frame P call.function call.args; waiting = [] } in
      let run : RunAt P call 0 [] (over stack []) call.memory = run_begins P call in
      by_entry P codes look call.function call.args (λ o. Holds P codes call (begins_in call o)) tt
      (let top : Active = InBase (entry_frame P call.function call.args) in
      record {
        stack = stack;
        below = [];
        since = 0;
        row = 8;
        run = run;
        top = refl;
        waiting = refl;
        counts = counts_first call top (omega arith);
        notes = no_notes P call;
      })
      (λ offset code found.
      let regs' = entry_regs code.regs call.args in
      let v : VersionFrame = record { function = call.function; offset = offset; label = code.entry; regs = regs' } in
      let s : State = first_state call (InVersion v) in
      let r : Resumes P code code.entry regs' stack =
      (sound call.function offset code found).entry call.args takes (no_context call.args) in
      let backs = own_backs P codes call formed sound s [] regs' code code.entry stack run (omega arith) r in
      record {
        stack = frames_of P r.arrives.place.point regs';
        below = [];
        since = 0;
        row = 8;
        run = run_same P call 0 [] stack (frames_of P r.arrives.place.point regs') [] call.memory run r.arrives.same;
        top = top_at P codes call formed sound s [] v code stack found r.arrives backs;
        waiting = refl;
        counts = counts_first call (InVersion v) (omega arith);
        notes = no_notes P call;
      })

  pub next_holds : (trail : List Look) (o : Progress) → Holds P codes call o → Holds P codes call (one_turn_more P codes trail o)
  unfolding one_turn_more
  next_holds trail (Continues s) h = turn_holds P codes call formed sound (slice_get trail s.entries) s h
  next_holds trail (Finishes end s) h = h
  next_holds trail Undefined h = h

  -- the run after n turns stands for the base run, or has ended as it did
  pub run_holds : (trail : List Look) → Takes P.functions call.function (length call.args) → (n : ℕ) → Holds P codes call (version_run P codes trail call n)
  unfolding version_run
  run_holds trail takes zero = start_holds (slice_get trail 0) takes
  run_holds trail takes (suc n) = next_holds trail (version_run P codes trail call n) (run_holds trail takes n)

  -- where a run goes on, its state stands
  pub run_stands : (trail : List Look) → Takes P.functions call.function (length call.args) → (n : ℕ) (s : State) →
      version_run P codes trail call n ≡ Continues s → Stands P codes call s
  run_stands trail takes n s e = subst (Holds P codes call) e (run_holds trail takes n)

  -- the report of a run that a turn ended
  pub ended_report : (trail : List Look) (end : End) (s : State) → HasEnded P call end s → s.turns ≤ call.limit → ReportStands P call (report_of trail end s)
  unfolding report_of
  ended_report trail end s ended within = record {
    «end» = ended_owed P call (report_of trail end s) end ended.no_limit ended.run;
    notes = ended.notes;
    within = within;
    bound = ended.bound;
  }

  -- the report at the limit
  pub limit_report : (trail : List Look) (s : State) → Stands P codes call s → s.turns ≡ call.limit → ReportStands P call (report_of trail TurnLimit s)
  unfolding report_of
  limit_report trail s stands limit =
      let b = counts_bound s stands.since stands.row stands.counts in
      record {
        «end» = (limit, (record { stack = stands.run.found; memory = s.memory }, stands.run.run));
        notes = stands.notes;
        within = omega arith;
        bound = omega arith;
      }

  used_stands : (trail : List Look) (end : End) (s : State) (b : Bool) → ReportStands P call (report_of trail end s) →
      IfSome (if b then Some (report_of trail end s) else None) (ReportStands P call)
  used_stands trail end s true h = h
  used_stands trail end s false h = tt

  at_stands : (trail : List Look) (o : Progress) → Holds P codes call o → HasTurns call.limit o → IfSome (report_at trail o) (ReportStands P call)
  unfolding report_at if_used
  at_stands trail (Continues s) h turns =
      used_stands trail TurnLimit s (s.entries == length trail) (limit_report trail s h turns)
  at_stands trail (Finishes end s) h turns =
      used_stands trail end s (s.entries == length trail) (ended_report trail end s h turns)
  at_stands trail Undefined h turns = tt

  -- Every report agrees with the base run: its prints and its end after its base turns, its notes, and its bounds.
  pub report_stands : (trail : List Look) → Takes P.functions call.function (length call.args) →
      IfSome (version_report P codes trail call) (ReportStands P call)
  unfolding version_report
  report_stands trail takes =
      at_stands trail (version_run P codes trail call call.limit) (run_holds trail takes call.limit) (run_has_turns P codes trail call call.limit)

  -- the same, of the report that there is
  pub report_agrees : (trail : List Look) (r : Report) → Takes P.functions call.function (length call.args) → version_report P codes trail call ≡ Some r →
      ReportStands P call r × IsWhole P call r
  report_agrees trail r takes e =
      let stands : ReportStands P call r = subst (λ o. IfSome o (ReportStands P call)) e (report_stands trail takes) in
      (stands, stands_whole P call r stands)
