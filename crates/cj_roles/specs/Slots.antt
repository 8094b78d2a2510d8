-- The places of roles that run beside each other.
use Rattle.std.specs.Prelude.{◌≡◌, ⊤, false, None, List}
use Rattle.cj_ir.specs.declared.script.ScriptCall.{ScriptCall}
use Rattle.cj_profile.specs.declared.profile.Profile.{Profile}
use Rattle.cj_profile.specs.Seats as counts
use Rattle.cj_publish.specs.declared.view.View.{View}
use Rattle.cj_publish.specs.declared.seats.CodeTable.{CodeTable}
use Rattle.cj_publish.specs.Seats.{view_of, Belongs}
use Rattle.cj_publish.specs.Views.{given}
use Rattle.cj_roles.specs.declared.role.Role.{Role}
use Rattle.cj_roles.specs.declared.role.Job.{Job}
use Rattle.cj_roles.specs.declared.role.RoleDone.{RoleDone}
use Rattle.cj_roles.specs.declared.role.Slot.{Slot}
use Rattle.cj_roles.specs.declared.role.Slot.TheVariants.{Given, Ended, Lost}
use Rattle.cj_roles.specs.Roles.{JobFits, RoleEnds}

-- a job that fits was given to the slot
abbrev pub SlotFits : CodeTable → Profile → Slot → Type 0
SlotFits t p (Given job) = JobFits t p job
SlotFits t p (Ended done) = ⊥
SlotFits t p Lost = ⊥

-- the job is that role's, with seats that were split off one with that view
pub record IsJobOf (t : CodeTable) (p : Profile) (v : View) (role : Role) (job : Job) : Type 0 where
  pub fits : JobFits t p job
  pub role_is : job.role ≡ role
  pub view : view_of job.code_seat ≡ given v

abbrev pub IsFor : CodeTable → Profile → View → Role → Slot → Type 0
IsFor t p v role (Given job) = IsJobOf t p v role job
IsFor t p v role (Ended done) = ⊥
IsFor t p v role Lost = ⊥

-- the role has ended, or memory ran out
abbrev pub HasEnded : List ScriptCall → CodeTable → Profile → View → Role → Slot → Type 0
HasEnded calls t p v role (Given job) = ⊥
HasEnded calls t p v role (Ended done) = RoleEnds calls t p (given v) role done
HasEnded calls t p v role Lost = ⊤

-- what comes of a slot to which a job was given
abbrev pub SlotEnds : List ScriptCall → CodeTable → Profile → Slot → Slot → Type 0
SlotEnds calls t p (Given job) (Given other) = ⊥
SlotEnds calls t p (Given job) (Ended done) = RoleEnds calls t p (view_of job.code_seat) job.role done
SlotEnds calls t p (Given job) Lost = ⊤
SlotEnds calls t p (Ended done) new = ⊤
SlotEnds calls t p Lost new = ⊤

-- the seats of a role that has ended can be joined into others of their tables
pub record CanBeJoined (t : CodeTable) (p : Profile) (done : RoleDone) : Type 0 where
  pub code : Belongs t done.code_seat
  pub code_first : done.code_seat.first ≡ false
  pub free : (view_of done.code_seat).claim ≡ None
  pub profile : counts.Belongs p done.profile_seat
  pub profile_first : done.profile_seat.first ≡ false

abbrev pub SlotJoins : CodeTable → Profile → Slot → Type 0
SlotJoins t p (Given job) = ⊤
SlotJoins t p (Ended done) = CanBeJoined t p done
SlotJoins t p Lost = ⊤
