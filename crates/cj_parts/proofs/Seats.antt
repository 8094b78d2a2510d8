-- Seats that stay the same seats.
use Rattle.std.proofs.Common.{◌∙◌, refl}
use Rattle.cj_profile.specs.declared.profile.ProfileSeat.{ProfileSeat}
use Rattle.cj_profile.specs.Seats as counts
use Rattle.cj_publish.specs.declared.seats.CodeSeat.{CodeSeat}
use Rattle.cj_publish.specs.Seats.{IsSame}

pub code_same : (s : CodeSeat) → IsSame s s
code_same s = record { table = refl; first = refl; splits = refl; sole = refl }

pub code_same_on : (s t u : CodeSeat) → IsSame s t → IsSame t u → IsSame s u
code_same_on s t u g h = record { table = h.table ∙ g.table; first = h.first ∙ g.first; splits = h.splits ∙ g.splits; sole = h.sole ∙ g.sole }

pub profile_same : (s : ProfileSeat) → counts.IsSame s s
profile_same s = record { first = refl; sole = refl; splits = refl; joined = refl }

pub profile_same_on : (s t u : ProfileSeat) → counts.IsSame s t → counts.IsSame t u → counts.IsSame s u
profile_same_on s t u g h = record { first = h.first ∙ g.first; sole = h.sole ∙ g.sole; splits = h.splits ∙ g.splits; joined = h.joined ∙ g.joined }
