-- Seats that stay the same seats.
use Rattle.std.proofs.Common.{◌∙◌, refl}
use Rattle.cj_parts.proofs.Seats.{code_same, code_same_on, profile_same, profile_same_on}
use Rattle.cj_alone.specs.declared.seats.Seats.{Seats}
use Rattle.cj_alone.specs.Seats.{AreSame}

pub seats_same : (s : Seats) → AreSame s s
seats_same s = record { code = code_same s.code; joined = refl; profile = profile_same s.profile }

pub seats_same_on : (s t u : Seats) → AreSame s t → AreSame t u → AreSame s u
seats_same_on s t u g h = record {
  code = code_same_on s.code t.code u.code g.code h.code;
  joined = h.joined ∙ g.joined;
  profile = profile_same_on s.profile t.profile u.profile g.profile h.profile;
}
