use Rattle.std.proofs.Common.{refl}
use Rattle.cj_roles.proofs.dealing.add_role.Goals as goal

pub returns : goal.returns
returns c =
    let made = c.split_seats-code_seat.ensures in record {
      split = made.split;
      job = record { role = c.args.role; code_seat = c.split_seats-code_seat.result.0; profile_seat = c.split_seats-code_seat.result.1 };
      is_job = record { fits = record { role = c.requires.role; seats = made.new }; role_is = refl; view = made.given };
      slots = c.in_ok-push.ensures.items;
    }
