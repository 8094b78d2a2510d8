use Rattle.std.proofs.Common.{◌≡◌, [], ◌-◌}
use Rattle.cj_codec.specs.Answers.{left}
use Rattle.cj_spelling.specs.Formats.{each_at}
use Rattle.cj_codec.proofs.items.read_each.Given as goal

abbrev pub invariant-more : goal.invariant-more
invariant-more g l =
    each_at (g.T.Item.reading l.limits) l.count [] (left l.fn.words) ≡ each_at (g.T.Item.reading l.limits) (l.count - l.k) l.items (left l.words)
