-- The clauses of a run, from what its roles have come to.
use Rattle.std.proofs.Common.{◌≡◌, ◌∙◌, refl, sym, ap, subst, ℕ, zero, suc, ◌+◌, ◌<◌, ◌≤◌, None, Some, Option, List, [], ◌∷◌, ◌++◌, map, take, drop, replicate}
use Rattle.std.proofs.Common.{length, arith, append-nil}
use Rattle.std.specs.Prelude.{All}
use Rattle.std.specs.List.{AllZip}
use Rattle.std.proofs.lemmas.List.{map-append, length-map, take_all, drop_all, nil_from_length}
use Rattle.std.proofs.lemmas.List.Elements.{All-nil, All-cons, All-head, All-tail, All-append}
use Rattle.cj_ir.specs.declared.language.Program.{Program}
use Rattle.cj_ir.specs.declared.script.Input.{Input}
use Rattle.cj_ir.specs.declared.script.ScriptCall.{ScriptCall}
use Rattle.cj_ir.specs.declared.script.Setup.{Setup}
use Rattle.cj_draft.specs.declared.code.Code.{Code}
use Rattle.cj_base.specs.Run.{Begun, begun}
use Rattle.cj_calls.specs.declared.report.Look.{Look}
use Rattle.cj_calls.specs.declared.report.Report.{Report}
use Rattle.cj_machine.specs.Versions.{Codes}
use Rattle.cj_profile.specs.declared.view.Read.{Read}
use Rattle.cj_profile.specs.Starts.{FromZeros}
use Rattle.cj_profile.specs.Seats as counts
use Rattle.cj_publish.specs.declared.view.Key.{Key}
use Rattle.cj_publish.specs.declared.view.Region.{Region}
use Rattle.cj_publish.specs.declared.view.View.{View}
use Rattle.cj_publish.specs.Words.{Has}
use Rattle.cj_publish.specs.Learns.{Learns, learns_more}
use Rattle.cj_publish.specs.Seats.{view_of, key_of, program_of}
use Rattle.cj_publish.specs.Views.{given}
use Rattle.cj_parts.specs.Known.{known_codes}
use Rattle.cj_notes.specs.declared.notes.WorkNote.{WorkNote}
use Rattle.cj_notes.specs.declared.notes.WorkNote.TheVariants.{Published, Older, Full, TooLarge, NoneAsked, Taken}
use Rattle.cj_notes.specs.Causes.{Noted}
use Rattle.cj_notes.specs.Standing.{IsShown, NoteStands, NotesStand}
use Rattle.cj_notes.proofs.Standing.{notes_later}
use Rattle.cj_records.specs.declared.store.Store.{Store}
use Rattle.cj_machine.specs.CodeMaps.{no_codes}
use Rattle.cj_profile.specs.declared.profile.Profile.{Profile}
use Rattle.cj_publish.specs.declared.seats.CodeTable.{CodeTable}
use Rattle.cj_script.specs.Fitting.{FitsCall, FitsScript}
use Rattle.cj_records.specs.Items.{OfSetup, OfWarm, ReadsInParts}
use Rattle.cj_records.specs.Chains.{flat, alone_each, share, numbers_from, dealt}
use Rattle.cj_records.specs.Notes.{published, published_by}
use Rattle.cj_records.specs.Records as record_of
use Rattle.cj_records.specs.Loops.{IsSeen, Prepared, IsPrepared}
use Rattle.cj_records.specs.Versions.{IsWholeStore, HasHeadline, AreV, Joined, RolesStand, RunStands, roles_of, work_of}
use Rattle.cj_records.proofs.Heads.{head_or, tail_of}
use Rattle.cj_records.proofs.Sharing.{AsLong}
use Rattle.cj_records.proofs.Joins.{joined_none, records_known}
use Rattle.cj_records.proofs.Standing.{over_of, roles_stand}
use Rattle.cj_records.proofs.InScript.{run_stands}
use Rattle.cj_roles.specs.declared.role.Role.{Role}
use Rattle.cj_roles.specs.declared.role.Role.TheVariants as role
use Rattle.cj_roles.specs.declared.role.Slot.{Slot}
use Rattle.cj_roles.specs.declared.joining.Answers.{Answers}
use Rattle.cj_roles.specs.declared.role.Shared.{Shared}
use Rattle.cj_roles.specs.Roles.{IsRun, IsRunOver, role_of, roles_in, callers_to}
use Rattle.cj_roles.specs.Slots.{IsFor, HasEnded}
use Rattle.cj_roles.specs.Dealt.{HasDealt, HasSplit, but_for_splits}
use Rattle.cj_roles.specs.Joined.{CanJoin, HasJoined, JoinsAll}
use Rattle.cj_roles.specs.Piles.{ArePiles}
use Rattle.cj_roles.specs.Ran.{RolesRan}
use Rattle.cj_roles.proofs.Shares.{flat_alone, share_map, shares, dealt_alone, map_same, piled}
use Rattle.cj_roles.proofs.Piles.{from_shares}
use Rattle.cj_roles.proofs.Dealt.{length_numbers, length_roles}

-- ---- what the notes of the `warm` lines published was seen

seen_of : (v : View) (n : WorkNote) (code : Option Code) → IsShown v n code → All (IsSeen v) (published n)
unfolding published
seen_of v (Published f level offset s skipped) (Some code) h = let at = h.1 in All-cons (IsSeen v) (record { function = f; offset = offset }) []
    (at.0, at.1, at.2, at.3) (All-nil (IsSeen v))
seen_of v (Published f level offset s skipped) None h = absurd h
seen_of v (Older f level mine later s) code h = All-nil (IsSeen v)
seen_of v (Full f level next need s) code h = All-nil (IsSeen v)
seen_of v (TooLarge f level len s) code h = All-nil (IsSeen v)
seen_of v NoneAsked code h = All-nil (IsSeen v)
seen_of v (Taken f later) code h = All-nil (IsSeen v)

all_seen : (P : Program) (v : View) (ns : List Noted) → All (NoteStands P v) ns → All (IsSeen v) (published_by (map (λ (n : Noted). n.note) ns))
unfolding published_by
all_seen P v [] h = All-nil (IsSeen v)
all_seen P v (n ∷ ns) h = All-append (IsSeen v) (published n.note) (published_by (map (λ (m : Noted). m.note) ns))
    (seen_of v n.note n.code (All-head (NoteStands P v) n ns h).shown) (all_seen P v ns (All-tail (NoteStands P v) n ns h))

published_seen : (P : Program) (v : View) (notes : List WorkNote) → NotesStand P v notes → All (IsSeen v) (published_by notes)
published_seen P v notes h = subst (λ (l : List WorkNote). All (IsSeen v) (published_by l)) h.are_notes (all_seen P v h.noted h.causes)

-- ---- the roles of the records

map_twice : {A B C : Type 0} (f : A → B) (g : B → C) (xs : List A) → map g (map f xs) ≡ map (λ x. g (f x)) xs
map_twice f g [] = refl
map_twice f g (x ∷ xs) = ap (λ l. g (f x) ∷ l) (map_twice f g xs)

map_replicate : {A B : Type 0} (f : A → B) (n : ℕ) (x : A) → map f (replicate n x) ≡ replicate n (f x)
map_replicate f zero x = refl
map_replicate f (suc n) x = ap (λ l. f x ∷ l) (map_replicate f n x)

pub length_dealt : {A : Type 0} (c : ℕ) (xss : List (List A)) → length (dealt c xss) ≡ c
unfolding dealt
length_dealt c xss = length_numbers (λ k. flat (share c k xss)) 0 c

module _ (calls : List ScriptCall) (callers : ℕ) where
  abbrev pub groups : List (List Begun)
  groups = dealt callers (alone_each (map begun calls))

  pub calls_of : ℕ → List Begun
  calls_of k = map begun (share callers k calls)

  groups_are : groups ≡ map calls_of (numbers_from 0 callers)
  unfolding calls_of shares
  groups_are = dealt_alone callers (map begun calls)
      ∙ map_same (λ k. share callers k (map begun calls)) (λ k. map begun (share callers k calls)) (λ k. share_map begun callers k calls)
      (numbers_from 0 callers)

  pub roles_are : (floor : List Look) (workers : ℕ) → map (role_of calls floor) (roles_in callers workers) ≡ roles_of groups floor workers
  unfolding roles_of calls_of
  roles_are floor workers =
      let caller : List Begun → record_of.Role = λ (cs : List Begun). record_of.Caller cs floor in
      let made = map calls_of (numbers_from 0 callers) in
      let front : map (role_of calls floor) (callers_to callers callers) ≡ map caller made =
      map_twice (λ (k : ℕ). role.Caller k callers) (role_of calls floor) (numbers_from 0 callers) ∙ sym (map_twice calls_of caller (numbers_from 0 callers)) in
      let back : map (role_of calls floor) (replicate workers (role.Worker callers)) ≡ replicate workers (record_of.Worker (length made)) =
      map_replicate (role_of calls floor) workers (role.Worker callers)
      ∙ ap (λ n. replicate workers (record_of.Worker n)) (sym (length_numbers calls_of 0 callers)) in
      map-append (role_of calls floor) (callers_to callers callers) (replicate workers (role.Worker callers))
      ∙ (λ i. front i ++ back i)
      ∙ sym (ap (λ gs. roles_of gs floor workers) groups_are)

-- ---- the reports of the roles

abbrev pub role_in : record_of.Done → record_of.Role
role_in d = d.role

abbrev pub reports_in : record_of.Done → List Report
reports_in d = d.reports

module _ (P : Program) (codes : Codes) (floor : List Look) (n : ℕ) where
  caller_long : (g : List Begun) (d : record_of.Done) → d.role ≡ record_of.Caller g floor → record_of.IsRecord P codes d → length g ≡ length d.reports
  caller_long g d e h =
      let r : record_of.CallerRecord P codes g floor d = subst (λ (x : record_of.Role). record_of.RoleRecord P codes x d) e h in
      sym (ap length r.are_calls) ∙ length-map r.answered (λ (a : record_of.Answered). a.call)
      ∙ sym (length-map r.answered (λ (a : record_of.Answered). a.report)) ∙ ap length r.are_reports

  worker_none : (d : record_of.Done) → d.role ≡ record_of.Worker n → record_of.IsRecord P codes d → d.reports ≡ []
  worker_none d e h = let r : record_of.WorkerRecord P n d = subst (λ (x : record_of.Role). record_of.RoleRecord P codes x d) e h in r.no_reports

  workers_none : (w : ℕ) (ended : List record_of.Done) → map role_in ended ≡ replicate w (record_of.Worker n) → All (record_of.IsRecord P codes) ended →
      map reports_in ended ≡ replicate w []
  unfolding head_or tail_of
  workers_none zero [] e h = refl
  workers_none zero (d ∷ ds) e h = let l : suc (length (map role_in ds)) ≡ 0 = ap length e in absurd (omega (arith, l))
  workers_none (suc w) [] e h = let l : 0 ≡ suc (length (replicate w (record_of.Worker n))) = ap length e in absurd (omega (arith, l))
  workers_none (suc w) (d ∷ ds) e h =
      let one = worker_none d (ap (head_or d.role) e) (All-head (record_of.IsRecord P codes) d ds h) in
      let more = workers_none w ds (ap tail_of e) (All-tail (record_of.IsRecord P codes) d ds h) in λ i. one i ∷ more i

  -- each caller has a report for each of its calls, and no worker has one
  pub reports_are : (gs : List (List Begun)) (w : ℕ) (ended : List record_of.Done)
      → map role_in ended ≡ map (λ (cs : List Begun). record_of.Caller cs floor) gs ++ replicate w (record_of.Worker n) → All (record_of.IsRecord P codes) ended
      → (piles : List (List Report)) × (map reports_in ended ≡ piles ++ replicate w []) × AllZip AsLong gs piles
  unfolding head_or tail_of
  reports_are [] w ended e h = ([], workers_none w ended e h, tt)
  reports_are (g ∷ gs) w [] e h = let l : 0
      ≡ suc (length (map (λ (cs : List Begun). record_of.Caller cs floor) gs ++ replicate w (record_of.Worker n))) = ap length e in absurd (omega (arith, l))
  reports_are (g ∷ gs) w (d ∷ ds) e h =
      let q = reports_are gs w ds (ap tail_of e) (All-tail (record_of.IsRecord P codes) d ds h) in
      (d.reports ∷ q.0, ap (λ l. d.reports ∷ l) q.1, (caller_long g d (ap (head_or d.role) e) (All-head (record_of.IsRecord P codes) d ds h), q.2))

zip_length : {A B : Type 0} (R : A → B → Type 0) (xs : List A) (ys : List B) → AllZip R xs ys → length xs ≡ length ys
zip_length R [] [] h = refl
zip_length R [] (y ∷ ys) h = absurd h
zip_length R (x ∷ xs) [] h = absurd h
zip_length R (x ∷ xs) (y ∷ ys) h = ap suc (zip_length R xs ys h.1)

-- what was written back through a slice of a whole list
pub written_back : {A B : Type 0} (R S : A → B → Type 0) (roles : List A) (old new : List B) (len : ℕ) → len ≡ length old → AllZip R roles old →
    AllZip S roles new → take len (new ++ drop (length new) old) ≡ new
written_back R S roles old new len e h k =
    let a = zip_length R roles old h in
    let b = zip_length S roles new k in
    let none : drop (length new) old ≡ [] = drop_all (length new) old (omega (arith, a, b)) in
    ap (λ l. take len (new ++ l)) none ∙ ap (take len) (append-nil new) ∙ take_all len new (omega (arith, e, a, b))

take_front : {A : Type 0} (xs ys : List A) → take (length xs) (xs ++ ys) ≡ xs
take_front [] ys = refl
take_front (x ∷ xs) ys = ap (λ l. x ∷ l) (take_front xs ys)

map_take : {A B : Type 0} (f : A → B) (n : ℕ) (xs : List A) → map f (take n xs) ≡ take n (map f xs)
map_take f zero xs = refl
map_take f (suc n) [] = refl
map_take f (suc n) (x ∷ xs) = ap (λ l. f x ∷ l) (map_take f n xs)

alone_fit : {A B : Type 0} (xs : List A) (ys : List B) → length xs ≡ length ys → AllZip AsLong (alone_each xs) (alone_each ys)
unfolding alone_each
alone_fit [] [] e = tt
alone_fit [] (y ∷ ys) e = absurd (omega (arith, e))
alone_fit (x ∷ xs) [] e = absurd (omega (arith, e))
alone_fit (x ∷ xs) (y ∷ ys) e = (refl, alone_fit xs ys (omega (arith, e)))

-- ---- the clauses

module _ (input : Input) (callers workers : ℕ) (warm : List WorkNote) (answers : Answers) (s : Store) (some : 1 ≤ callers)
    (h : RolesRan input callers workers warm answers s) where
  abbrev pub P : Program
  P = input.checked

  abbrev pub codes : Codes
  codes = known_codes (view_of s.code_seat)

  abbrev pub calls : List Begun
  calls = map begun input.script.calls

  abbrev pub dealt_calls : List (List Begun)
  dealt_calls = dealt callers (alone_each calls)

  pub their_roles : map role_in h.joined.ended ≡ roles_of dealt_calls (published_by warm) workers
  their_roles = h.joined.are_roles ∙ roles_are input.script.calls callers (published_by warm) workers

  pub piles : (piles : List (List Report)) × (map reports_in h.joined.ended ≡ piles ++ replicate workers []) × AllZip AsLong dealt_calls piles
  unfolding roles_of
  piles = reports_are P codes (published_by warm) (length dealt_calls) dealt_calls workers h.joined.ended their_roles
      (records_known P 1048576 input.script.setups warm h.joined.ended (view_of s.code_seat) (counts.reads_of s.profile_seat)
      (counts.joined_of s.profile_seat) h.store.code.reliable h.joined.joined)

  pub so_many : length piles.0 ≡ callers
  so_many = sym (zip_length AsLong dealt_calls piles.0 piles.2) ∙ length_dealt callers (alone_each calls)

  -- the piles of the callers
  pub callers_piles : take callers (map (λ pile. pile.items) answers.piles.items) ≡ piles.0
  callers_piles =
      ap (take callers) (sym h.joined.are_reports ∙ piles.1)
      ∙ ap (λ n. take n (piles.0 ++ replicate workers [])) (sym so_many)
      ∙ take_front piles.0 (replicate workers [])

  -- they are those of some list of reports
  pub reports_of_piles : (reports : List Report) × ArePiles reports piles.0 × (length reports ≡ length input.script.calls)
  reports_of_piles = by_number callers some so_many (subst (λ gs. AllZip AsLong gs piles.0) (dealt_alone callers calls) piles.2)
    where
      by_number : (c : ℕ) → 1 ≤ c → length piles.0 ≡ c → AllZip AsLong (shares c calls) piles.0 → (reports : List Report) × ArePiles reports piles.0
          × (length reports ≡ length input.script.calls)
      by_number zero le e z = absurd (omega (arith, le))
      by_number (suc n) le e z = let q = piled n calls piles.0 z in (q.0, from_shares n q.0 piles.0 e q.1, q.2 ∙ length-map input.script.calls begun)

  pub run_ends : (reports : List Report) → ArePiles reports piles.0 → length reports ≡ length input.script.calls
      → HasHeadline P calls reports × RunStands P 1048576 callers workers input.script.setups (alone_each calls) reports answers.work s
  run_ends reports are many =
      let dealt_reports = dealt callers (alone_each reports) in
      let same : dealt_reports ≡ piles.0 = ap (λ n. dealt n (alone_each reports)) (sym so_many) ∙ are.are in
      let whole : IsWholeStore (length dealt_calls + workers) 1048576 P s = subst (λ n. IsWholeStore (n + workers) 1048576 P s)
      (sym (length_dealt callers (alone_each calls))) h.store in
      let stand : RolesStand P 1048576 workers input.script.setups dealt_calls dealt_reports answers.work s =
      subst (λ (w : List WorkNote). RolesStand P 1048576 workers input.script.setups dealt_calls dealt_reports w s) (sym h.joined.are_notes)
      (roles_stand P 1048576 workers input.script.setups dealt_calls dealt_reports warm h.joined.ended s whole their_roles
      (piles.1 ∙ ap (λ l. l ++ replicate workers []) (sym same)) h.joined.joined) in
      let fit = alone_fit calls reports (length-map input.script.calls begun ∙ sym many) in
      let both = run_stands P 1048576 callers workers input.script.setups (alone_each calls) (alone_each reports) answers.work s
      (omega (arith, some)) fit stand in (
        subst (λ (cs : List Begun). HasHeadline P cs reports) (flat_alone calls)
            (subst (λ (rs : List Report). HasHeadline P (flat (alone_each calls)) rs) (flat_alone reports) both.0),
        subst (λ (rs : List Report). RunStands P 1048576 callers workers input.script.setups (alone_each calls) rs answers.work s) (flat_alone reports) both.1,
      )

  -- the piles that are left when those of the workers are dropped
  left_piles : (left : _) → left ≡ take callers answers.piles.items → map (λ pile. pile.items) left ≡ piles.0
  left_piles left e = ap (map (λ pile. pile.items)) e ∙ map_take (λ pile. pile.items) callers answers.piles.items ∙ callers_piles

  pub gathers_here : (left : _) → left ≡ take callers answers.piles.items → (reports : List Report) × ArePiles reports (map (λ pile. pile.items) left)
      × (length reports ≡ length input.script.calls)
  gathers_here left e = (reports_of_piles.0, subst (ArePiles reports_of_piles.0) (sym (left_piles left e)) reports_of_piles.1, reports_of_piles.2)

  pub ends_here : (left : _) → left ≡ take callers answers.piles.items → (reports : List Report) → ArePiles reports (map (λ pile. pile.items) left) →
      length reports ≡ length input.script.calls
      → HasHeadline input.checked (map begun input.script.calls) reports
      × RunStands input.checked 1048576 callers workers input.script.setups (alone_each (map begun input.script.calls)) reports answers.work s
  ends_here left e reports are many = run_ends reports (subst (ArePiles reports) (left_piles left e) are) many

-- ---- from the seats that were dealt to those that were joined

module _ (v w : View) (e : but_for_splits w ≡ but_for_splits v) where
  regions_are : w.regions ≡ v.regions
  regions_are = ap (λ (x : View). x.regions) e

  next_is : w.next ≡ v.next
  next_is = ap (λ (x : View). x.next) e

  shared_learns : Learns v w
  shared_learns = learns_more v w (ap (λ (x : View). x.live) e) (ap (λ (x : View). x.key) e) (let n = next_is in omega (arith, n))
      (λ (x : Region) (has : Has v.regions x). subst (λ (rs : List Region). Has rs x) (sym regions_are) has)

-- what roles share is the input's, over the tables of the store
pub is_run : (input : Input) (s : Store) (given_to : Shared) → given_to.checked.now ≡ input.checked → given_to.calls.now ≡ input.script.calls →
    given_to.code.now ≡ s.code → given_to.profile.now ≡ s.profile
    → IsRunOver input s → IsRun given_to
is_run input s given_to checked calls code profile h = record {
  program = ap program_of code ∙ h.program ∙ sym checked;
  one_slot = ap (λ t. (key_of t).slots) code ∙ h.one_slot;
  counted = ap counts.program_of profile ∙ h.counted ∙ sym checked;
  calls = subst (λ (z : Program × List ScriptCall). All (FitsCall z.0.functions) z.1) (λ i. (sym checked i, sym calls i)) h.fits.calls;
  few_calls = subst (λ (cs : List ScriptCall). length cs ≤ 256) (sym calls) h.fits.few_calls;
}

module _ (input : Input) (callers workers : ℕ) (warm : List WorkNote) (a b : Store) (slots : List Slot)
    (prepared : IsPrepared input.checked 1048576 input.script.setups warm a) (dealt_to : HasDealt a (roles_in callers workers) slots b) where
  abbrev pub Q : Program
  Q = input.checked

  abbrev pub u : View
  u = view_of a.code_seat

  abbrev pub v : View
  v = view_of b.code_seat

  -- the roles are for seats that were split off
  pub are_for : AllZip (IsFor b.code b.profile u) (roles_in callers workers) slots
  are_for = subst (λ (z : CodeTable × Profile). AllZip (IsFor z.0 z.1 u) (roles_in callers workers) slots)
      (λ i. (sym dealt_to.split.code_table i, sym dealt_to.split.profile_table i)) dealt_to.slots_are

  -- where each role that was given to a slot has come to its end, these are all that stand in the slots
  pub all_ended : (given_to after : List Slot) (len : ℕ) → slots ≡ given_to → len ≡ length slots
      → ((w : View) (roles : List Role) → AllZip (IsFor b.code b.profile w) roles given_to
      → AllZip (HasEnded input.script.calls b.code b.profile w) roles after)
      → (take len (after ++ drop (length after) slots) ≡ after) × AllZip (HasEnded input.script.calls b.code b.profile u) (roles_in callers workers) after
  all_ended given_to after len same long ends =
      let roles = roles_in callers workers in
      let ended = ends u roles (subst (AllZip (IsFor b.code b.profile u) roles) same are_for) in
      (written_back (IsFor b.code b.profile u) (HasEnded input.script.calls b.code b.profile u) roles slots after len long are_for ended, ended)

  pub can_join : CanJoin b
  can_join =
      let own = dealt_to.split.can.code in record {
        code = record { table = own.table; live = own.live; key = own.key };
        free = ap (λ (x : View). x.claim) dealt_to.split.view ∙ prepared.free;
        profile = dealt_to.split.can.profile;
      }

  -- the tables are those of the input's program
  pub run_over : FitsScript input.checked input.script → IsRunOver input b
  run_over fits = record {
    program = ap program_of dealt_to.split.code_table ∙ prepared.store.program;
    one_slot = ap (λ t. (key_of t).slots) dealt_to.split.code_table ∙ prepared.store.one_slot;
    counted = ap counts.program_of dealt_to.split.profile_table ∙ prepared.store.counted;
    fits = fits;
  }

  joined_so_far : Joined Q 1048576 input.script.setups warm [] v (counts.reads_of b.profile_seat) (counts.joined_of b.profile_seat)
  joined_so_far =
      let e = dealt_to.split.view in
      let over = over_of 0 1048576 Q a prepared.store in
      let p = prepared.prepared.acted in
      let zeros : FromZeros (counts.reads_of a.profile_seat) = prepared.store.profile.starts prepared.profile_sole in
      joined_none Q 1048576 input.script.setups warm v (counts.reads_of b.profile_seat) (counts.joined_of b.profile_seat)
      (record {
        live = ap (λ (x : View). x.live) e ∙ over.live;
        program = ap (λ (x : View). x.key.program) e
            ∙ over.program;
        one_slot = ap (λ (x : View). x.key.slots) e ∙ over.one_slot;
        sized = ap (λ (x : View). x.key.size) e ∙ over.sized;
      })
      (record {
        are_warm = p.are_warm;
        notes = notes_later Q 0 [] u v warm (shared_learns u v e) p.notes (ap (λ (x : View). x.taken) e) (ap (λ (x : View). x.outcomes) e);
        lookups = ap (λ (x : View). x.lookups) e ∙ p.lookups;
        in_parts = subst (λ (rs : List Read). ReadsInParts Q no_codes (map OfSetup input.script.setups ++ map OfWarm warm) rs)
            (sym dealt_to.split.reads) p.in_parts;
      })
      (subst FromZeros (sym dealt_to.split.reads) zeros)
      (ap (λ (x : View). x.joined) e ∙ nil_from_length u.joined prepared.store.code_seat.all_joined)
      (dealt_to.split.joined ∙ nil_from_length (counts.joined_of a.profile_seat) prepared.store.profile_seat.all_joined)

  pub roles_ran : (ended : List Slot) (answers : Answers) (c : Store)
      → AllZip (HasEnded input.script.calls b.code b.profile u) (roles_in callers workers) ended
      → JoinsAll ended warm b answers c → RolesRan input callers workers warm answers c
  roles_ran ended answers c ends joins =
      let floor = published_by warm in
      let program : program_of b.code ≡ Q = ap program_of dealt_to.split.code_table ∙ prepared.store.program in
      let size : (key_of b.code).size ≡ 1048576 = ap (λ t. (key_of t).size) dealt_to.split.code_table ∙ prepared.store.sized in
      let before : Joined (program_of b.code) (key_of b.code).size input.script.setups warm [] v (counts.reads_of b.profile_seat)
      (counts.joined_of b.profile_seat) =
      subst (λ (z : Program × ℕ). Joined z.0 z.1 input.script.setups warm [] v (counts.reads_of b.profile_seat) (counts.joined_of b.profile_seat))
      (λ i. (sym program i, sym size i)) joined_so_far in
      let after = joins.joins input.script.calls u (roles_in callers workers) input.script.setups floor ends
      (published_seen Q u warm prepared.prepared.acted.notes) before in
      let all : HasJoined Q 1048576 input.script.setups warm (map (role_of input.script.calls floor) (roles_in callers workers)) answers c =
      subst (λ (z : Program × ℕ). HasJoined z.0 z.1 input.script.setups warm (map (role_of input.script.calls floor) (roles_in callers workers)) answers c)
      (λ i. (program i, size i)) after in
      let length_is : length all.ended ≡ callers + workers =
      sym (length-map all.ended (λ (d : record_of.Done). d.role)) ∙ ap length all.are_roles
      ∙ length-map (roles_in callers workers) (role_of input.script.calls floor) ∙ length_roles callers callers workers in
      let splits : length (roles_in callers workers) ≡ callers + workers = length_roles callers callers workers in
      record {
        store = record {
          code = joins.code;
          profile = joins.profile;
          program = ap program_of joins.same.code_table ∙ program;
          counted = ap counts.program_of (joins.same.profile_table ∙ dealt_to.split.profile_table) ∙ prepared.store.counted;
          one_slot = ap (λ t. (key_of t).slots) (joins.same.code_table ∙ dealt_to.split.code_table) ∙ prepared.store.one_slot;
          sized = ap (λ t. (key_of t).size) joins.same.code_table ∙ size;
          code_seat = record {
            first = joins.same.code.first ∙ dealt_to.split.can.code_first;
            splits = let x = joins.same.code.splits in let y = dealt_to.split.code_splits in let z = prepared.store.code_seat.splits in omega
                (arith, x, y, z, splits);
            all_joined = ap length all.joined.looks_joined ∙ length-map all.ended _ ∙ length_is;
          };
          profile_seat = record {
            first = joins.same.profile_first ∙ dealt_to.split.can.profile_first;
            splits = let x = joins.same.profile_splits in let y = dealt_to.split.profile_splits in let z = prepared.store.profile_seat.splits in omega
                (arith, x, y, z, splits);
            all_joined = ap length all.joined.reads_joined ∙ length-map all.ended _ ∙ length_is;
          };
        };
        joined = all;
      }
