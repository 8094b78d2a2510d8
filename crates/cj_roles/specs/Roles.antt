-- The roles of a run: what they are given, and what they come to.
use Rattle.std.specs.Prelude.{◌≡◌, ℕ, ◌≤◌, ◌<◌, ⊤, true, false, None, List, [], ◌++◌, map, length, replicate, All}
use Rattle.cj_ir.specs.declared.script.ScriptCall.{ScriptCall}
use Rattle.cj_script.specs.Fitting.{FitsCall, FitsScript}
use Rattle.cj_base.specs.Run.{begun}
use Rattle.cj_calls.specs.declared.report.Look.{Look}
use Rattle.cj_profile.specs.declared.profile.Profile.{Profile}
use Rattle.cj_profile.specs.declared.profile.ProfileSeat.{ProfileSeat}
use Rattle.cj_profile.specs.Seats as counts
use Rattle.cj_publish.specs.declared.view.View.{View}
use Rattle.cj_publish.specs.declared.seats.CodeTable.{CodeTable}
use Rattle.cj_publish.specs.declared.seats.CodeSeat.{CodeSeat}
use Rattle.cj_publish.specs.Seats.{view_of, key_of, program_of, Belongs}
use Rattle.cj_records.specs.Chains.{share, numbers_from}
use Rattle.cj_records.specs.Records as record_of
use Rattle.cj_records.specs.Loops.{IsSeen}
use Rattle.cj_ir.specs.declared.script.Input.{Input}
use Rattle.cj_records.specs.declared.store.Store.{Store}
use Rattle.cj_roles.specs.declared.role.Shared.{Shared}
use Rattle.cj_roles.specs.declared.role.Role.{Role}
use Rattle.cj_roles.specs.declared.role.Role.TheVariants.{Caller, Worker}
use Rattle.cj_roles.specs.declared.role.Job.{Job}
use Rattle.cj_roles.specs.declared.role.RoleDone.{RoleDone}
use Rattle.cj_script.specs.declared.limits.TheConstants.{MAX_CALLS}

-- both tables are of the program, with one slot for each function, and the calls are those of a script that fits it
pub record IsRun (shared : Shared) : Type 0 where
  pub program : program_of shared.code.now ≡ shared.checked.now
  pub one_slot : (key_of shared.code.now).slots ≡ 1
  pub counted : counts.program_of shared.profile.now ≡ shared.checked.now
  pub calls : All (FitsCall shared.checked.now.functions) shared.calls.now
  pub few_calls : length shared.calls.now ≤ MAX_CALLS

-- the same of an input and the tables of a store
pub record IsRunOver (input : Input) (s : Store) : Type 0 where
  pub program : program_of s.code ≡ input.checked
  pub one_slot : (key_of s.code).slots ≡ 1
  pub counted : counts.program_of s.profile ≡ input.checked
  pub fits : FitsScript input.checked input.script

-- so many of the callers, each with its number
abbrev pub callers_to : ℕ → ℕ → List Role
callers_to callers n = map (λ (first : ℕ). Caller first callers) (numbers_from 0 n)

-- all callers, and then the workers
abbrev pub roles_in : ℕ → ℕ → List Role
roles_in callers workers = callers_to callers callers ++ replicate workers (Worker callers)

-- the role as its record has it: a caller's calls are its share of the script's
abbrev pub role_of : List ScriptCall → List Look → Role → record_of.Role
role_of calls floor (Caller first callers) = record_of.Caller (map begun (share callers first calls)) floor
role_of calls floor (Worker callers) = record_of.Worker callers

abbrev pub RoleFits : Role → Type 0
RoleFits (Caller first callers) = (first < callers) × (callers ≤ 4)
RoleFits (Worker callers) = ⊤

-- seats of the two tables that have done nothing, and into which nothing was joined
pub record AreNew (t : CodeTable) (p : Profile) (s : CodeSeat) (q : ProfileSeat) : Type 0 where
  pub code : Belongs t s
  pub code_first : s.first ≡ false
  pub free : (view_of s).claim ≡ None
  pub lookups : (view_of s).lookups ≡ []
  pub taken : (view_of s).taken ≡ 0
  pub outcomes : (view_of s).outcomes ≡ []
  pub joined : (view_of s).joined ≡ []
  pub profile : counts.Belongs p q
  pub is_new : counts.IsNew false q

pub record JobFits (t : CodeTable) (p : Profile) (job : Job) : Type 0 where
  pub role : RoleFits job.role
  pub seats : AreNew t p job.code_seat job.profile_seat

-- What came of a role whose seat began with that view: seats of the tables, into which nothing was joined, and whatever
-- versions the view had seen, what they gained is the record of the role.
pub record RoleEnds (calls : List ScriptCall) (t : CodeTable) (p : Profile) (v : View) (role : Role) (done : RoleDone) : Type 0 where
  pub code : Belongs t done.code_seat
  pub code_first : done.code_seat.first ≡ false
  pub free : (view_of done.code_seat).claim ≡ None
  pub profile : counts.Belongs p done.profile_seat
  pub profile_first : done.profile_seat.first ≡ false
  pub stands : (floor : List Look) → All (IsSeen v) floor
      → record_of.RoleStands (program_of t) (key_of t).size (role_of calls floor role) done.reports.items done.work done.code_seat done.profile_seat
