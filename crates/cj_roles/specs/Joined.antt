-- Seats of roles joined into those of a store.
use Rattle.std.specs.Prelude.{◌≡◌, ℕ, None, List, [], ◌∷◌, ◌++◌, map, All}
use Rattle.std.specs.List.{AllZip}
use Rattle.cj_ir.specs.declared.language.Program.{Program}
use Rattle.cj_ir.specs.declared.script.ScriptCall.{ScriptCall}
use Rattle.cj_ir.specs.declared.script.Setup.{Setup}
use Rattle.cj_calls.specs.declared.report.Look.{Look}
use Rattle.cj_profile.specs.declared.profile.ProfileSeat.{ProfileSeat}
use Rattle.cj_profile.specs.Seats as counts
use Rattle.cj_publish.specs.declared.view.View.{View}
use Rattle.cj_publish.specs.declared.seats.CodeSeat.{CodeSeat}
use Rattle.cj_publish.specs.Seats.{view_of, key_of, program_of, IsSeatOf, Belongs, IsSame}
use Rattle.cj_publish.specs.Views.{given, joined_view}
use Rattle.cj_notes.specs.declared.notes.WorkNote.{WorkNote}
use Rattle.cj_records.specs.declared.store.Store.{Store}
use Rattle.cj_records.specs.Records as record_of
use Rattle.cj_records.specs.Loops.{IsSeen}
use Rattle.cj_records.specs.Versions.{Joined, work_of}
use Rattle.cj_roles.specs.declared.role.Role.{Role}
use Rattle.cj_roles.specs.declared.role.RoleDone.{RoleDone}
use Rattle.cj_roles.specs.declared.role.Slot.{Slot}
use Rattle.cj_roles.specs.declared.role.Slot.TheVariants.{Ended}
use Rattle.cj_roles.specs.declared.joining.Answers.{Answers}
use Rattle.cj_roles.specs.Roles.{role_of}
use Rattle.cj_roles.specs.Slots.{HasEnded}

-- seats can be joined into those of the store
pub record CanJoin (s : Store) : Type 0 where
  pub code : IsSeatOf s.code s.code_seat
  pub free : (view_of s.code_seat).claim ≡ None
  pub profile : counts.Belongs s.profile s.profile_seat

-- the store has the same tables, and the same seats at them
pub record IsSameStore (a b : Store) : Type 0 where
  pub code_table : b.code ≡ a.code
  pub profile_table : b.profile ≡ a.profile
  pub code : IsSame a.code_seat b.code_seat
  pub profile_first : b.profile_seat.first ≡ a.profile_seat.first
  pub profile_splits : b.profile_seat.splits ≡ a.profile_seat.splits

-- the store's seats know besides what these two know
pub record TakesIn (a : Store) (s : CodeSeat) (t : ProfileSeat) (b : Store) : Type 0 where
  pub can : CanJoin b
  pub same : IsSameStore a b
  pub view : view_of b.code_seat ≡ joined_view (view_of a.code_seat) (view_of s)
  pub reads : counts.reads_of b.profile_seat ≡ counts.reads_of a.profile_seat
  pub joined : counts.joined_of b.profile_seat ≡ counts.joined_of a.profile_seat ++ counts.reads_of t ∷ counts.joined_of t

-- the slot's role has ended; its seats are taken in, and what it has answered is kept
pub record JoinsSlot (slot : Slot) (a : Store) (before : Answers) (b : Store) (after : Answers) : Type 0 where
  pub done : RoleDone
  pub is_done : slot ≡ Ended done
  pub takes : TakesIn a done.code_seat done.profile_seat b
  pub piles : after.piles.items ≡ before.piles.items ++ done.reports ∷ []
  pub work : after.work ≡ before.work ++ done.work

-- the seats of these roles are joined, and the answers are theirs
pub record HasJoined (P : Program) (size : ℕ) (setups : List Setup) (warm : List WorkNote) (roles : List record_of.Role) (answers : Answers)
    (s : Store) : Type 0 where
  pub ended : List record_of.Done
  pub are_roles : map (λ (d : record_of.Done). d.role) ended ≡ roles
  pub are_reports : map (λ (d : record_of.Done). d.reports) ended ≡ map (λ pile. pile.items) answers.piles.items
  pub are_notes : answers.work ≡ warm ++ work_of ended
  pub joined : Joined P size setups warm ended (view_of s.code_seat) (counts.reads_of s.profile_seat) (counts.joined_of s.profile_seat)

-- The roles of these slots, whose seats were split off one with the view v, are joined into the store's, whatever setups had acted.
abbrev pub JoinsRoles : List Slot → List WorkNote → Store → Answers → Store → Type 0
JoinsRoles slots warm a answers b =
    (calls : List ScriptCall) (v : View) (roles : List Role) (setups : List Setup) (floor : List Look)
    → AllZip (HasEnded calls a.code a.profile v) roles slots → All (IsSeen (given v)) floor
    → Joined (program_of a.code) (key_of a.code).size setups warm [] (view_of a.code_seat) (counts.reads_of a.profile_seat) (counts.joined_of a.profile_seat)
    → HasJoined (program_of a.code) (key_of a.code).size setups warm (map (role_of calls floor) roles) answers b

-- what holds between two joins
pub record IsJoining (slots : List Slot) (warm : List WorkNote) (a : Store) (answers : Answers) (b : Store) : Type 0 where
  pub can : CanJoin b
  pub same : IsSameStore a b
  pub joins : JoinsRoles slots warm a answers b

-- all are joined, and what the code seat knows is confirmed
pub record JoinsAll (slots : List Slot) (warm : List WorkNote) (a : Store) (answers : Answers) (b : Store) : Type 0 where
  pub code : Belongs b.code b.code_seat
  pub profile : counts.Belongs b.profile b.profile_seat
  pub same : IsSameStore a b
  pub joins : JoinsRoles slots warm a answers b
