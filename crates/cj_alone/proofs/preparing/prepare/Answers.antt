use Rattle.cj_alone.proofs.Stores.{prepared_store}
use Rattle.cj_alone.proofs.preparing.prepare.Goals as goal

pub returns : goal.returns
returns c =
    let s = c.in_ok-store.store in
    let made = c.in_ok-store.ensures in
    let e = c.in_ok-seats.ensures in
    prepared_store _ _ _ _ _ _ e.free e.same _ _ s.profile_seat (made.whole.program, made.whole.sized, made.whole.one_slot) made.unused.0 made.sole.0
    made.whole.code_seat.first made.whole.code_seat.splits made.unused.1 made.sole.1 c.set_hints.ensures.same c.set_hints.ensures.part e.warmed
