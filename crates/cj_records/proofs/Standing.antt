-- The clauses put together: a role that is done, and the store after the joins.
use Rattle.std.proofs.Common.{◌≡◌, ◌∙◌, refl, ap, subst, arith, ℕ, ◌+◌, ◌*◌, ◌≤◌, List, [], ◌∷◌, ◌++◌, map, replicate, length}
use Rattle.cj_ir.specs.declared.language.Program.{Program}
use Rattle.cj_ir.specs.declared.script.Setup.{Setup}
use Rattle.cj_base.specs.Run.{Begun}
use Rattle.cj_calls.specs.declared.report.Look.{Look}
use Rattle.cj_calls.specs.declared.report.Report.{Report}
use Rattle.cj_profile.specs.declared.view.Read.{Read}
use Rattle.cj_profile.specs.declared.layout.Word.TheVariants as word
use Rattle.cj_profile.specs.declared.profile.ProfileSeat.{ProfileSeat}
use Rattle.cj_profile.specs.Reads.{add_one}
use Rattle.cj_profile.specs.Seats as counts
use Rattle.cj_publish.specs.declared.view.Key.{Key}
use Rattle.cj_publish.specs.declared.view.View.{View}
use Rattle.cj_publish.specs.declared.seats.CodeSeat.{CodeSeat}
use Rattle.cj_publish.specs.Cells.{cells}
use Rattle.cj_publish.specs.Seats.{view_of, IsSole}
use Rattle.cj_parts.specs.Looks.{looks_of}
use Rattle.cj_notes.specs.declared.notes.WorkNote.{WorkNote}
use Rattle.cj_notes.specs.Waiting.{TurnsDone}
use Rattle.cj_notes.proofs.Standing.{notes_none}
use Rattle.cj_notes.proofs.Turning.{notes_of_turns}
use Rattle.cj_records.specs.declared.store.Store.{Store}
use Rattle.cj_records.specs.Notes.{published_by}
use Rattle.cj_records.specs.Records.{Caller, Worker, Done, IsOver, AreSplitOff, RoleStands}
use Rattle.cj_records.specs.Loops.{CallsMade}
use Rattle.cj_records.specs.Versions.{IsWholeStore, BeganNew, roles_of, work_of, Joined, RolesStand}
use Rattle.cj_records.proofs.Published.{all_known}
use Rattle.cj_records.proofs.Roles.{calls_done, turns_record}
use Rattle.cj_records.proofs.Joins.{records_known}

-- the view of a store's code seat is over a table of that size
pub over_of : (n size : ℕ) (P : Program) (s : Store) → IsWholeStore n size P s → IsOver P size (view_of s.code_seat)
over_of n size P s h = record {
  live = h.code.live;
  program = ap (λ (k : Key). k.program) h.code.key ∙ h.program;
  one_slot = ap (λ (k : Key). k.slots) h.code.key ∙ h.one_slot;
  sized = ap (λ (k : Key). k.size) h.code.key ∙ h.sized;
}

-- what the only seats that there ever were know of the beginning
pub began_new : (n size : ℕ) (P : Program) (s : Store) → IsWholeStore n size P s → IsSole s.code_seat → counts.IsSole s.profile_seat → BeganNew P s
unfolding cells
began_new n size P s h code profile =
    let v = view_of s.code_seat in
    let o = over_of n size P s h in
    let fits : cells v.key ≡ length P.functions = (λ i. o.one_slot i * length (o.program i).functions) ∙ omega arith in
    record {
      counts_from_zeros = h.profile.starts profile;
      claims_alone = subst (λ (c : ℕ). v.next ≤ c + 1 + v.taken) fits (h.code.reliable.starts code);
    }

module _ (P : Program) (size : ℕ) where
  -- a caller that has made its calls, and told that it has finished
  pub caller_stands : (floor : List Look) (calls : List Begun) (reports : List Report) (s : CodeSeat) (t : ProfileSeat) (old : List Read) (found : ℕ)
      → AreSplitOff P size s t → (view_of s).taken ≡ 0 → (view_of s).outcomes ≡ [] → CallsMade P floor calls reports (view_of s) old →
      counts.reads_of t ≡ old ++ add_one word.Finished found ∷ []
      → RoleStands P size (Caller calls floor) reports [] s t
  caller_stands floor calls reports s t old found off none empty h e = record {
    seats = off;
    looks = looks_of reports;
    lookups = h.lookups;
    is_record = calls_done P floor calls reports (view_of s) old (counts.reads_of t) found h off.reliable e;
    notes = notes_none P 0 [] (view_of s) none empty;
  }

  -- a worker that has found that all callers have finished, where its seats had gained nothing when it began
  pub worker_stands : (callers : ℕ) (work : List WorkNote) (v : View) (s : CodeSeat) (t : ProfileSeat)
      → AreSplitOff P size s t → v.lookups ≡ [] → v.taken ≡ 0 → v.outcomes ≡ []
      → TurnsDone P callers work v (view_of s) [] (counts.reads_of t) → RoleStands P size (Worker callers) [] work s t
  worker_stands callers work v s t off looks none empty h = record {
    seats = off;
    looks = [];
    lookups = h.turns.on.lookups ∙ looks;
    is_record = turns_record P callers work v (view_of s) (counts.reads_of t) h;
    notes = notes_of_turns P callers work v (view_of s) [] h.made none empty h.turns;
  }

  -- after the joins, with the seat confirmed
  pub roles_stand : (workers : ℕ) (setups : List Setup) (groups : List (List Begun)) (answers : List (List Report)) (warm : List WorkNote) (roles : List Done)
      (s : Store)
      → IsWholeStore (length groups + workers) size P s
      → map (λ (d : Done). d.role) roles ≡ roles_of groups (published_by warm) workers
      → map (λ (d : Done). d.reports) roles ≡ answers ++ replicate workers []
      → Joined P size setups warm roles (view_of s.code_seat) (counts.reads_of s.profile_seat) (counts.joined_of s.profile_seat)
      → RolesStand P size workers setups groups answers (warm ++ work_of roles) s
  roles_stand workers setups groups answers warm roles s whole are_roles are_reports h = record {
    store = whole;
    warm = warm;
    roles = roles;
    are_roles = are_roles;
    are_reports = are_reports;
    are_notes = refl;
    joined = h;
    records = records_known P size setups warm roles (view_of s.code_seat) (counts.reads_of s.profile_seat)
        (counts.joined_of s.profile_seat) whole.code.reliable h;
    knows = all_known P (view_of s.code_seat) whole.code.reliable h.notes.noted h.notes.causes;
  }
