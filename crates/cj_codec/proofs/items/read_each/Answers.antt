use Rattle.std.proofs.Common.{◌∙◌}
use Rattle.cj_codec.specs.Answers.{left}
use Rattle.cj_codec.proofs.Growing.{each_goes}
use Rattle.cj_codec.proofs.items.read_each.Goals as goal

pub more-preserved : goal.more-preserved
more-preserved g c =
    c.more.invariant ∙ each_goes (g.T.Item.reading c.args.limits) c.args.count c.more.k c.more.items c.add_item.new.items (left c.more.words)
    (left c.add_item.new.words) c.more-test.true c.in-Ok.ensures
