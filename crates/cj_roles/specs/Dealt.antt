-- Roles with seats that are split off those of a store.
use Rattle.std.specs.Prelude.{◌≡◌, ℕ, ◌+◌, true, false, List, [], ◌∷◌, ◌++◌, length}
use Rattle.std.specs.List.{AllZip}
use Rattle.cj_profile.specs.Seats as counts
use Rattle.cj_publish.specs.Seats.{view_of, Belongs}
use Rattle.cj_publish.specs.declared.view.View.{View}
use Rattle.cj_records.specs.declared.store.Store.{Store}
use Rattle.cj_roles.specs.declared.role.Role.{Role}
use Rattle.cj_roles.specs.declared.role.Job.{Job}
use Rattle.cj_roles.specs.declared.role.Slot.{Slot}
use Rattle.cj_roles.specs.declared.role.Slot.TheVariants.{Given}
use Rattle.cj_roles.specs.Slots.{IsJobOf, IsFor}

-- The seats are the first ones of the store's tables, and can be split.
pub record CanBeSplit (s : Store) : Type 0 where
  pub code : Belongs s.code s.code_seat
  pub code_first : s.code_seat.first ≡ true
  pub profile : counts.Belongs s.profile s.profile_seat
  pub profile_first : s.profile_seat.first ≡ true

-- a view, whatever was split off its seat
abbrev pub but_for_splits : View → View
but_for_splits v = record v { sole = false; splits = 0 }

-- the tables and what their seats show are those of before, but that so many seats were split off
pub record HasSplit (n : ℕ) (a b : Store) : Type 0 where
  pub can : CanBeSplit b
  pub code_table : b.code ≡ a.code
  pub profile_table : b.profile ≡ a.profile
  pub code_splits : b.code_seat.splits ≡ a.code_seat.splits + n
  pub profile_splits : b.profile_seat.splits ≡ a.profile_seat.splits + n
  pub view : but_for_splits (view_of b.code_seat) ≡ but_for_splits (view_of a.code_seat)
  pub reads : counts.reads_of b.profile_seat ≡ counts.reads_of a.profile_seat
  pub joined : counts.joined_of b.profile_seat ≡ counts.joined_of a.profile_seat

-- one role more
pub record Deals (a : Store) (role : Role) (before after : List Slot) (b : Store) : Type 0 where
  pub split : HasSplit 1 a b
  pub job : Job
  pub is_job : IsJobOf a.code a.profile (view_of a.code_seat) role job
  pub slots : after ≡ before ++ Given job ∷ []

-- a slot for each of the roles, in order
pub record HasDealt (a : Store) (roles : List Role) (slots : List Slot) (b : Store) : Type 0 where
  pub split : HasSplit (length roles) a b
  pub slots_are : AllZip (IsFor a.code a.profile (view_of a.code_seat)) roles slots
