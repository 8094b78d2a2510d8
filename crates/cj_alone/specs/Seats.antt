-- The two seats of a run on one thread, which go from sessions to workers and back.
use Rattle.std.specs.Prelude.{◌≡◌, List, None}
use Rattle.cj_ir.specs.declared.language.Program.{Program}
use Rattle.cj_profile.specs.declared.profile.Profile.{Profile}
use Rattle.cj_profile.specs.declared.view.Read.{Read}
use Rattle.cj_profile.specs.Seats as counts
use Rattle.cj_publish.specs.declared.seats.CodeTable.{CodeTable}
use Rattle.cj_publish.specs.declared.view.View.{View}
use Rattle.cj_publish.specs.Seats.{view_of, key_of, program_of, Belongs, IsSame}
use Rattle.cj_alone.specs.declared.seats.Seats.{Seats}

abbrev pub view_at : Seats → View
view_at s = view_of s.code

abbrev pub reads_at : Seats → List Read
reads_at s = counts.reads_of s.profile

-- both tables are of the program, the seats are theirs, and no words are claimed
pub record IsFree (P : Program) (t : CodeTable) (p : Profile) (s : Seats) : Type 0 where
  pub code : Belongs t s.code
  pub program : program_of t ≡ P
  pub one_slot : (key_of t).slots ≡ 1
  pub free : (view_at s).claim ≡ None
  pub profile : counts.Belongs p s.profile
  pub counted : counts.program_of p ≡ P

-- they are the same seats: whether they are first, their splits, and what was joined into them
pub record AreSame (old new : Seats) : Type 0 where
  pub code : IsSame old.code new.code
  pub joined : (view_at new).joined ≡ (view_at old).joined
  pub profile : counts.IsSame old.profile new.profile
