use Rattle.cj_records.proofs.Showing.{none_left_out}
use Rattle.cj_records.proofs.laws.no_seat_is_left_out.Goals as goal

pub returns : goal.returns
returns c = λ n size P s h. none_left_out n size P s h
