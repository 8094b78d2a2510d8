-- The three clauses that bind reports to versions: on the notes; on the lookups and the reads; on the reports.
use Rattle.std.specs.Prelude.{◌≡◌, ℕ, ◌+◌, ◌≤◌, true, List, [], ◌∷◌, ◌++◌, map, length, replicate, All}
use Rattle.std.specs.List.{AllZip}
use Rattle.cj_ir.specs.declared.language.Program.{Program}
use Rattle.cj_ir.specs.declared.script.Setup.{Setup}
use Rattle.cj_base.specs.Run.{Begun}
use Rattle.cj_calls.specs.declared.report.Look.{Look}
use Rattle.cj_calls.specs.declared.report.Report.{Report}
use Rattle.cj_machine.specs.Versions.{Codes}
use Rattle.cj_machine.specs.CodeMaps.{no_codes}
use Rattle.cj_profile.specs.declared.view.Read.{Read}
use Rattle.cj_profile.specs.declared.profile.ProfileSeat.{ProfileSeat}
use Rattle.cj_profile.specs.Seats as counts
use Rattle.cj_profile.specs.Starts.{FromZeros}
use Rattle.cj_publish.specs.declared.view.View.{View}
use Rattle.cj_publish.specs.declared.seats.CodeSeat.{CodeSeat}
use Rattle.cj_publish.specs.Seats.{view_of, key_of, program_of, Belongs}
use Rattle.cj_parts.specs.Known.{known_codes}
use Rattle.cj_parts.specs.Looks.{looked, looks_of, NeverFall, IsNewest}
use Rattle.cj_parts.specs.Calls.{Stands, IsV}
use Rattle.cj_notes.specs.declared.notes.WorkNote.{WorkNote}
use Rattle.cj_notes.specs.Standing.{NotesStand}
use Rattle.cj_records.specs.declared.store.Store.{Store}
use Rattle.cj_records.specs.Notes.{published, published_by, IsInTime, IsKnown}
use Rattle.cj_records.specs.Setups.{AreWarm}
use Rattle.cj_records.specs.Items.{Item, OfCall, OfWork, ReadsInParts, setup_items}
use Rattle.cj_records.specs.Records.{Role, Caller, Worker, Done, IsRecord, IsBacked, IsOver}
use Rattle.cj_records.specs.Chains.{flat, dealt}

-- ---- the store

-- the first seat of a table, off which n were split, each of which was joined into it again
pub record IsWholeCode (n : ℕ) (s : CodeSeat) : Type 0 where
  pub first : s.first ≡ true
  pub splits : s.splits ≡ n
  pub all_joined : length (view_of s).joined ≡ n

pub record IsWholeProfile (n : ℕ) (s : ProfileSeat) : Type 0 where
  pub first : s.first ≡ true
  pub splits : s.splits ≡ n
  pub all_joined : length (counts.joined_of s) ≡ n

-- both tables are of the program, with so many words and one slot for each function, and no seat of either was left out
pub record IsWholeStore (n size : ℕ) (P : Program) (s : Store) : Type 0 where
  pub code : Belongs s.code s.code_seat
  pub profile : counts.Belongs s.profile s.profile_seat
  pub program : program_of s.code ≡ P
  pub counted : counts.program_of s.profile ≡ P
  pub one_slot : (key_of s.code).slots ≡ 1
  pub sized : (key_of s.code).size ≡ size
  pub code_seat : IsWholeCode n s.code_seat
  pub profile_seat : IsWholeProfile n s.profile_seat

-- Both tables began new, and no seats but these two ever were at them. Each step on the profile found what the steps before it
-- left in its word, which was 0 at first. Behind the words of the functions no words are claimed but by the code seat.
pub record BeganNew (P : Program) (s : Store) : Type 0 where
  pub counts_from_zeros : FromZeros (counts.reads_of s.profile_seat)
  pub claims_alone : (view_of s.code_seat).next ≤ length P.functions + 1 + (view_of s.code_seat).taken

-- ---- reports

-- the headline: one report for each call, which stands for the base run and is whole where the limit is large enough
abbrev pub HasHeadline : Program → List Begun → List Report → Type 0
HasHeadline P calls reports = AllZip (Stands P) calls reports

-- each report is the versioned run's over these codes
abbrev pub AreV : Program → Codes → List Begun → List Report → Type 0
AreV P codes calls reports = AllZip (IsV P codes) calls reports

-- ---- calls on one thread, each followed by one work

pub record Round : Type 0 where
  pub call : Begun
  pub report : Report
  pub note : WorkNote

unfoldable pub round_items : List Round → List Item
round_items [] = []
round_items (r ∷ rs) = OfCall r.call r.report ∷ OfWork r.note ∷ round_items rs

-- each look finds the newest version that was published before its call
abbrev pub LooksNewest : List Look → List Round → Type 0
LooksNewest floor [] = Unit {0}
LooksNewest floor (r ∷ rs) = All (IsNewest floor) r.report.looks × LooksNewest (floor ++ published r.note) rs

-- what the two seats of such a run show
pub record AloneShows (P : Program) (setups : List Setup) (calls : List Begun) (reports : List Report) (work : List WorkNote) (v : View)
    (reads : List Read) : Type 0 where
  pub warm : List WorkNote
  pub rounds : List Round
  pub are_calls : map (λ (r : Round). r.call) rounds ≡ calls
  pub are_reports : map (λ (r : Round). r.report) rounds ≡ reports
  -- the notes: those of the `warm` lines and then one for each call, each with its cause, and no version came too late
  pub are_notes : work ≡ warm ++ map (λ (r : Round). r.note) rounds
  pub are_warm : AreWarm setups warm
  pub notes : NotesStand P v work
  pub in_time : All IsInTime work
  -- the lookups are the looks of the reports, which find the newest that was published, and the reads are in parts
  pub newest : LooksNewest (published_by warm) rounds
  pub lookups : v.lookups ≡ map looked (looks_of reports)
  pub rises : NeverFall (looks_of reports)
  pub in_parts : ReadsInParts P (known_codes v) (setup_items setups warm ++ round_items rounds) reads
  -- the reports are the versioned run's over what was read whole, and that has the code of each note
  pub versions : AreV P (known_codes v) calls reports
  pub knows : All (IsKnown (known_codes v)) notes.noted

-- the clauses for `alone` and `bench N`
pub record AloneStands (P : Program) (size : ℕ) (setups : List Setup) (calls : List Begun) (reports : List Report) (work : List WorkNote)
    (s : Store) : Type 0 where
  pub store : IsWholeStore 0 size P s
  pub began : BeganNew P s
  pub shows : AloneShows P setups calls reports work (view_of s.code_seat) (counts.reads_of s.profile_seat)

-- ---- calls of several callers

-- callers first, each with its calls
unfoldable pub roles_of : List (List Begun) → List Look → ℕ → List Role
roles_of groups floor workers = map (λ (calls : List Begun). Caller calls floor) groups ++ replicate workers (Worker (length groups))

unfoldable pub work_of : List Done → List WorkNote
work_of [] = []
work_of (d ∷ ds) = d.work ++ work_of ds

-- The roles whose seats were joined so far, with what the seats into which they were joined show. Their records stand over
-- what was read whole; that two readings agree is known only when the seat is confirmed.
pub record Joined (P : Program) (size : ℕ) (setups : List Setup) (warm : List WorkNote) (roles : List Done) (v : View) (reads : List Read)
    (others : List (List Read)) : Type 0 where
  pub over : IsOver P size v
  pub are_warm : AreWarm setups warm
  pub notes : NotesStand P v (warm ++ work_of roles)
  pub lookups : v.lookups ≡ []
  pub began : FromZeros reads
  pub in_parts : ReadsInParts P no_codes (setup_items setups warm) reads
  pub looks_joined : v.joined ≡ map (λ (d : Done). map looked d.looks) roles
  pub reads_joined : others ≡ map (λ (d : Done). d.reads) roles
  pub backed : All (IsBacked P v) roles

-- `groups` are the calls of each caller, and `answers` their reports
pub record RolesStand (P : Program) (size workers : ℕ) (setups : List Setup) (groups : List (List Begun)) (answers : List (List Report)) (work : List WorkNote)
    (s : Store) : Type 0 where
  pub store : IsWholeStore (length groups + workers) size P s
  pub warm : List WorkNote
  pub roles : List Done
  pub are_roles : map (λ (d : Done). d.role) roles ≡ roles_of groups (published_by warm) workers
  pub are_reports : map (λ (d : Done). d.reports) roles ≡ answers ++ replicate workers []
  pub are_notes : work ≡ warm ++ work_of roles
  pub joined : Joined P size setups warm roles (view_of s.code_seat) (counts.reads_of s.profile_seat) (counts.joined_of s.profile_seat)
  pub records : All (IsRecord P (known_codes (view_of s.code_seat))) roles
  pub knows : All (IsKnown (known_codes (view_of s.code_seat))) joined.notes.noted

-- The clauses for `run` and `bench N C W`: chain j goes to caller j mod C. The reports are those of the calls of the chains,
-- one after the other.
pub record RunStands (P : Program) (size callers workers : ℕ) (setups : List Setup) (chains : List (List Begun)) (reports : List Report) (work : List WorkNote)
    (s : Store) : Type 0 where
  pub answers : List (List Report)
  pub fit : AllZip (λ (calls : List Begun) (rs : List Report). length calls ≡ length rs) chains answers
  pub are_reports : flat answers ≡ reports
  pub roles : RolesStand P size workers setups (dealt callers chains) (dealt callers answers) work s
  pub versions : AreV P (known_codes (view_of s.code_seat)) (flat chains) reports
