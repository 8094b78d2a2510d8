use Rattle.std.proofs.Common.{refl}
use Rattle.cj_rows.specs.Places.{with_places}
use Rattle.cj_delay.proofs.delays.mark.Goals as goal

pub returns : goal.returns
unfolding with_places
returns c = record {
  place = c.item_mut.result.now;
  at = c.item_mut.ensures.value;
  marked = c.mark_place.new.place;
  is_marked = c.in_ok-mark_place.ensures;
  same = refl;
}
