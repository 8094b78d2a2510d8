-- A profile and its seats.
use Rattle.std.specs.Prelude.{◌≡◌, Bool, true, List, [], ◌++◌}
use Rattle.cj_ir.specs.declared.language.Program.{Program}
use Rattle.cj_profile.specs.Starts.{FromZeros}
use Rattle.cj_profile.specs.declared.view.Read.{Read}
use Rattle.cj_profile.specs.declared.view.View.{View}
use Rattle.cj_profile.specs.declared.profile.Profile.{Profile}
use Rattle.cj_profile.specs.declared.profile.ProfileSeat.{ProfileSeat}

-- the program that the profile was made for
abbrev pub program_of : Profile → Program
program_of t = t.table.shared.key

abbrev pub view_of : ProfileSeat → View
view_of s = s.seat.me.0

-- the steps that the seat made, and those of each seat that was joined into it
abbrev pub reads_of : ProfileSeat → List Read
reads_of s = (view_of s).reads

abbrev pub joined_of : ProfileSeat → List (List Read)
joined_of s = (view_of s).joined

-- there never was another seat
abbrev pub IsSole : ProfileSeat → Type 0
IsSole s = (view_of s).sole ≡ true

-- The seat is one of the profile's, and was not joined into another. Where it is the only one, its steps began with words
-- that were all 0.
pub record Belongs (t : Profile) (s : ProfileSeat) : Type 0 where
  pub table : s.seat.table_id ≡ t.table.shared.table_id
  pub live : (view_of s).live ≡ true
  pub program : (view_of s).program ≡ program_of t
  pub starts : IsSole s → FromZeros (reads_of s)

-- the seat is the same: whether it is first and the only one, how many splits it made, and what was joined into it
pub record IsSame (old new : ProfileSeat) : Type 0 where
  pub first : new.first ≡ old.first
  pub sole : (view_of new).sole ≡ (view_of old).sole
  pub splits : new.splits ≡ old.splits
  pub joined : joined_of new ≡ joined_of old

-- the seat has made just these steps since
abbrev pub Adds : List Read → ProfileSeat → ProfileSeat → Type 0
Adds part old new = reads_of new ≡ reads_of old ++ part

abbrev pub AddsPart : (List Read → Type 0) → ProfileSeat → ProfileSeat → Type 0
AddsPart IsPart old new = (part : List Read) × IsPart part × Adds part old new

-- a seat that has made no step, and into which none was joined
pub record IsNew (first : Bool) (s : ProfileSeat) : Type 0 where
  pub is_first : s.first ≡ first
  pub splits : s.splits ≡ 0
  pub reads : reads_of s ≡ []
  pub joined : joined_of s ≡ []
