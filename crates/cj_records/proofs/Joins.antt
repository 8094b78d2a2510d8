-- A role's seats joined into those of the store.
use Rattle.std.proofs.Common.{◌≡◌, ◌∙◌, refl, sym, ap, subst, arith, ℕ, ◌+◌, List, [], ◌∷◌, ◌++◌, map, append-nil, append_assoc}
use Rattle.std.specs.Prelude.{All}
use Rattle.std.proofs.lemmas.List.{map_push, map-append}
use Rattle.std.proofs.lemmas.List.Elements.{All-nil, All-append, All-push, All-weaker}
use Rattle.std.proofs.lemmas.List.Sums.{sum_by-append}
use Rattle.cj_ir.specs.declared.language.Program.{Program}
use Rattle.cj_ir.specs.declared.script.Setup.{Setup}
use Rattle.cj_calls.specs.declared.report.Report.{Report}
use Rattle.cj_machine.specs.Versions.{Codes}
use Rattle.cj_machine.specs.CodeMaps.{Grows}
use Rattle.cj_profile.specs.declared.view.Read.{Read}
use Rattle.cj_profile.specs.declared.profile.ProfileSeat.{ProfileSeat}
use Rattle.cj_profile.specs.Seats as counts
use Rattle.cj_profile.specs.Starts.{FromZeros}
use Rattle.cj_publish.specs.declared.view.Key.{Key}
use Rattle.cj_publish.specs.declared.view.View.{View}
use Rattle.cj_publish.specs.declared.seats.CodeSeat.{CodeSeat}
use Rattle.cj_publish.specs.Words.{has_right}
use Rattle.cj_publish.specs.Views.{joined_view}
use Rattle.cj_publish.specs.Reliable.{IsReliable}
use Rattle.cj_publish.specs.Learns.{Learns, learns_more, joins_learns}
use Rattle.cj_publish.specs.Seats.{view_of}
use Rattle.cj_notes.specs.declared.notes.WorkNote.{WorkNote}
use Rattle.cj_notes.specs.Causes.{Noted, claimed_by}
use Rattle.cj_parts.specs.Known.{known_codes}
use Rattle.cj_parts.specs.Looks.{looked}
use Rattle.cj_parts.proofs.Known.{known_in, in_later, in_known}
use Rattle.cj_notes.specs.Standing.{NoteStands, NotesStand}
use Rattle.cj_notes.proofs.Standing.{note_grows, outcomes_append}
use Rattle.cj_records.specs.Items.{setup_items}
use Rattle.cj_records.specs.Records.{Role, Caller, Worker, Done, call_items, RoleRecord, IsRecord, IsBacked, IsOver, RoleStands}
use Rattle.cj_records.specs.Loops.{SetupsActed}
use Rattle.cj_records.specs.Versions.{work_of, Joined}
use Rattle.cj_records.proofs.Growth.{in_parts_grows}

key_is : (k l : Key) → k.program ≡ l.program → k.slots ≡ l.slots → k.size ≡ l.size → k ≡ l
key_is k l p s z = λ i. record { program = p i; slots = s i; size = z i }

module _ (P : Program) (codes later : Codes) (g : Grows codes later) where
  role_grows : (role : Role) (d : Done) → RoleRecord P codes role d → RoleRecord P later role d
  role_grows (Caller calls floor) d h = record {
    no_work = h.no_work;
    answered = h.answered;
    are_calls = h.are_calls;
    are_reports = h.are_reports;
    headline = h.headline;
    looks = h.looks;
    rises = h.rises;
    above = h.above;
    made = h.made;
    in_parts = in_parts_grows P codes later g (call_items h.answered) h.made h.in_parts;
    found = h.found;
    reads = h.reads;
  }
  role_grows (Worker callers) d h = h

  pub record_grows : (d : Done) → IsRecord P codes d → IsRecord P later d
  record_grows d h = role_grows d.role d h

-- what a view has learned keeps a record's codes
pub backed_later : (P : Program) (v w : View) (d : Done) → Learns v w → IsBacked P v d → IsBacked P w d
backed_later P v w d g h = (h.0, in_later v w h.0 g h.1, h.2)

-- where two readings agree, the record is one over all that was read whole
pub backed_record : (P : Program) (v : View) → IsReliable v → (d : Done) → IsBacked P v d → IsRecord P (known_codes v) d
backed_record P v ok d h = record_grows P h.0 (known_codes v) (in_known v h.0 ok h.1) d h.2

-- so the records of all roles are, once the seat is confirmed
pub records_known : (P : Program) (size : ℕ) (setups : List Setup) (warm : List WorkNote) (roles : List Done) (v : View) (reads : List Read)
    (others : List (List Read))
    → IsReliable v → Joined P size setups warm roles v reads others → All (IsRecord P (known_codes v)) roles
records_known P size setups warm roles v reads others ok h = All-weaker (IsBacked P v) (IsRecord P (known_codes v)) (backed_record P v ok) roles h.backed

notes_join : (P : Program) (a b c : View) (xs ys : List WorkNote) → Learns a c → Learns b c → c.taken ≡ a.taken + b.taken
    → c.outcomes ≡ a.outcomes ++ b.outcomes → NotesStand P a xs → NotesStand P b ys → NotesStand P c (xs ++ ys)
notes_join P a b c xs ys g h e o nx ny = record {
  noted = nx.noted ++ ny.noted;
  are_notes = map-append (λ (n : Noted). n.note) nx.noted ny.noted ∙ (λ i. nx.are_notes i ++ ny.are_notes i);
  causes = All-append (NoteStands P c) nx.noted ny.noted (All-weaker (NoteStands P a) (NoteStands P c) (note_grows P a c g) nx.noted nx.causes)
      (All-weaker (NoteStands P b) (NoteStands P c) (note_grows P b c h) ny.noted ny.causes);
  taken = let s = sum_by-append claimed_by nx.noted ny.noted in let k = nx.taken in let l = ny.taken in omega arith;
  outcomes = o ∙ (λ i. nx.outcomes i ++ ny.outcomes i) ∙ sym (outcomes_append xs ys);
}

work_push : (roles : List Done) (d : Done) → work_of (roles ++ d ∷ []) ≡ work_of roles ++ d.work
unfolding work_of
work_push [] d = append-nil d.work
work_push (x ∷ xs) d = ap (λ (y : List WorkNote). x.work ++ y) (work_push xs d) ∙ sym (append_assoc x.work (work_of xs) d.work)

module _ (P : Program) (size : ℕ) (setups : List Setup) (warm : List WorkNote) where
  theirs_learn : (v u : View) → IsOver P size v → IsOver P size u → Learns u (joined_view v u)
  theirs_learn v u mine theirs =
      learns_more u (joined_view v u) (mine.live ∙ sym theirs.live)
      (key_is v.key u.key (mine.program ∙ sym theirs.program) (mine.one_slot ∙ sym theirs.one_slot) (mine.sized ∙ sym theirs.sized)) (omega arith)
      (λ x h. has_right v.regions u.regions x h)

  -- no role was joined yet
  pub joined_none : (v : View) (reads : List Read) (others : List (List Read)) → IsOver P size v → SetupsActed P setups setups warm v reads → FromZeros reads →
      v.joined ≡ [] → others ≡ [] → Joined P size setups warm [] v reads others
  unfolding setup_items work_of
  joined_none v reads others over h began none empty = record {
    over = over;
    are_warm = h.are_warm;
    notes = subst (NotesStand P v) (sym (append-nil warm)) h.notes;
    lookups = h.lookups;
    began = began;
    in_parts = h.in_parts;
    looks_joined = none;
    reads_joined = empty;
    backed = All-nil (IsBacked P v);
  }

  -- one role more
  pub join_push : (roles : List Done) (v : View) (reads : List Read) (others : List (List Read)) (role : Role) (reports : List Report) (work : List WorkNote)
      (s : CodeSeat) (t : ProfileSeat)
      → Joined P size setups warm roles v reads others
      → (r : RoleStands P size role reports work s t)
      → Joined P size setups warm (roles ++ record { role = role; reports = reports; work = work; looks = r.looks; reads = counts.reads_of t } ∷ [])
      (joined_view v (view_of s)) reads (others ++ counts.reads_of t ∷ counts.joined_of t)
  join_push roles v reads others role reports work s t h r =
      let d : Done = record { role = role; reports = reports; work = work; looks = r.looks; reads = counts.reads_of t } in
      let u = view_of s in
      let w = joined_view v u in
      let mine = joins_learns v u in
      let theirs = theirs_learn v u h.over r.seats.over in
      let all : (warm ++ work_of roles) ++ work ≡ warm ++ work_of (roles ++ d ∷ []) = append_assoc warm (work_of roles) work
      ∙ ap (λ (l : List WorkNote). warm ++ l) (sym (work_push roles d)) in
      let backed : IsBacked P w d = (known_codes u, in_later u w (known_codes u) theirs (known_in u), r.is_record) in
      let looks : u.lookups ∷ u.joined ≡ map looked r.looks ∷ [] = λ i. r.lookups i ∷ r.seats.code_joined i in
      record {
        over = record { live = h.over.live; program = h.over.program; one_slot = h.over.one_slot; sized = h.over.sized };
        are_warm = h.are_warm;
        notes = subst (NotesStand P w) all (notes_join P v u w (warm ++ work_of roles) work mine theirs refl refl h.notes r.notes);
        lookups = h.lookups;
        began = h.began;
        in_parts = h.in_parts;
        looks_joined = (λ i. h.looks_joined i ++ looks i) ∙ sym (map_push (λ (x : Done). map looked x.looks) roles d);
        reads_joined = (λ i. h.reads_joined i ++ counts.reads_of t ∷ r.seats.profile_joined i) ∙ sym (map_push (λ (x : Done). x.reads) roles d);
        backed = All-push (IsBacked P w) roles d
            (All-weaker (IsBacked P v) (IsBacked P w) (λ (x : Done) (b : IsBacked P v x). backed_later P v w x mine b) roles h.backed) backed;
      }
