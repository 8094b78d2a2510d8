-- What a session keeps, and what its calls do to its seats.
use Rattle.std.specs.Prelude.{◌≡◌, ℕ, true, List, [], ◌∷◌, ◌++◌, map, All, None}
use Rattle.cj_ir.specs.declared.language.FunId.{FunId}
use Rattle.cj_calls.specs.declared.report.Look.{Look}
use Rattle.cj_machine.specs.Versions.{Codes}
use Rattle.cj_machine.specs.Marks.{Mark, Entered, Branched, FailedIn}
use Rattle.cj_profile.specs.Seats as counts
use Rattle.cj_profile.specs.declared.view.Read.{Read}
use Rattle.cj_publish.specs.declared.view.Cell.{Cell}
use Rattle.cj_publish.specs.declared.view.View.{View}
use Rattle.cj_publish.specs.Seats.{view_of, key_of, program_of, Belongs, IsSame}
use Rattle.cj_publish.specs.Plays.{NotOlder, FindsSeen}
use Rattle.cj_publish.specs.Fetched.{main_of}
use Rattle.cj_publish.specs.Learns.{Learns}
use Rattle.cj_parts.specs.Parts.{InParts, MarkPart}
use Rattle.cj_parts.specs.Looks.{looked, IsNotOlder}
use Rattle.cj_parts.specs.Runs.{FindsNothingNew}
use Rattle.cj_session.specs.declared.session.Session.{Session}
use Rattle.cj_session.specs.Versions.{codes_in, AreKnown}

abbrev pub codes_of : Session → Codes
codes_of s = codes_in s.versions.map.entries

abbrev pub view_in : Session → View
view_in s = view_of s.code_seat

abbrev pub look_of : Cell × ℕ → Look
look_of x = record { function = x.0.function; offset = x.1 }

-- the lookups of the session's seat
abbrev pub trail_of : Session → List Look
trail_of s = map look_of (view_in s).lookups

abbrev pub reads_in : Session → List Read
reads_in s = counts.reads_of s.profile_seat

-- The seats are those of tables that were made for the program, with one slot for each function; nothing is claimed, and the
-- versions are among those that the seat has read whole.
pub record IsReady (s : Session) : Type 0 where
  pub code : Belongs s.table.now s.code_seat
  pub program : program_of s.table.now ≡ s.checked.now
  pub one_slot : (key_of s.table.now).slots ≡ 1
  pub free : (view_in s).claim ≡ None
  pub profile : counts.Belongs s.profile.now s.profile_seat
  pub counted : counts.program_of s.profile.now ≡ s.checked.now
  pub known : AreKnown s.checked.now (view_in s) s.versions

-- a lookup does no more to a view than that, and the only seat that there ever was sees nothing new
pub record Looks (v w : View) : Type 0 where
  pub learns : Learns v w
  pub claim : w.claim ≡ v.claim
  pub taken : w.taken ≡ v.taken
  pub outcomes : w.outcomes ≡ v.outcomes
  pub joined : w.joined ≡ v.joined
  pub alone : v.sole ≡ true → FindsNothingNew [] v w

-- one lookup more, no older than what was seen before; the only seat finds nothing, or what it had seen
abbrev pub LooksUp : FunId → ℕ → View → View → Type 0
LooksUp f offset v w = (w.lookups ≡ v.lookups ++ (main_of f, offset) ∷ []) × NotOlder v (main_of f) offset × FindsSeen v (main_of f) offset

-- the functions that were entered
unfoldable pub entered_in : List Mark → List FunId
entered_in [] = []
entered_in (Entered f args ∷ marks) = f ∷ entered_in marks
entered_in (Branched f label edge ∷ marks) = entered_in marks
entered_in (FailedIn f ∷ marks) = entered_in marks

-- Between these states the session went through exactly these marks: it looked each function that was entered up once, no
-- lookup was older than what the first state had seen, and the steps on the profile are in parts over the marks. The only seat
-- that there ever was found nothing new.
pub record Went (a b : Session) (marks : List Mark) : Type 0 where
  pub learns : Learns (view_in a) (view_in b)
  pub looks : List Look
  pub once : map (λ (look : Look). look.function) looks ≡ entered_in marks
  pub trail : (view_in b).lookups ≡ (view_in a).lookups ++ map looked looks
  pub floor : All (IsNotOlder (view_in a)) looks
  pub alone : (view_in a).sole ≡ true → FindsNothingNew looks (view_in a) (view_in b)
  pub part : List Read
  pub in_parts : InParts MarkPart marks part
  pub reads : reads_in b ≡ reads_in a ++ part

-- What stays, whatever came of a call. The session went through some marks: so the lookups that it made stay, and what it did
-- to the profile is in parts of entries, branches and failures.
pub record Stays (a b : Session) : Type 0 where
  pub checked : b.checked.now ≡ a.checked.now
  pub table : b.table.now ≡ a.table.now
  pub profile : b.profile.now ≡ a.profile.now
  pub code_same : IsSame a.code_seat b.code_seat
  pub profile_same : counts.IsSame a.profile_seat b.profile_seat
  pub claim : (view_in b).claim ≡ (view_in a).claim
  pub taken : (view_in b).taken ≡ (view_in a).taken
  pub outcomes : (view_in b).outcomes ≡ (view_in a).outcomes
  pub joined : (view_in b).joined ≡ (view_in a).joined
  pub marks : List Mark
  pub went : Went a b marks
