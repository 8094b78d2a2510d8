use Rattle.cj_roles.proofs.joining.join_slot.Goals as goal

pub returns : goal.returns
returns c = record {
  done = c.in-Ended.done;
  is_done = c.in-Ended.is;
  takes = c.join_seats.ensures;
  piles = c.in_ok-keep.ensures.piles;
  work = c.in_ok-keep.ensures.work;
}
