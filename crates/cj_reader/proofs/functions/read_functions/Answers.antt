use Rattle.std.proofs.Common.{◌∙◌}
use Rattle.cj_tokens.specs.Left.{left}
use Rattle.cj_reader.specs.Known.{function_in}
use Rattle.cj_reader.specs.Reading.{function_at}
use Rattle.cj_reader.proofs.Growing.{each_goes}
use Rattle.cj_reader.proofs.functions.read_functions.Goals as goal

pub more-preserved : goal.more-preserved
more-preserved c = record {
  reads = c.more.invariant.reads
      ∙ each_goes (function_at (function_in c.args.functions.now)) c.args.functions.now.count c.more.k c.more.all c.add_function.new.all
      (left c.more.tokens) (left c.add_function.new.tokens) c.more-test.true c.in-Ok.ensures.reads;
  source = c.in-Ok.ensures.source ∙ c.more.invariant.source;
}
