use Rattle.cj_inline.proofs.Once.{gone_after}
use Rattle.cj_inline.proofs.laws.call_is_inlined_once.Goals as goal

pub returns : goal.returns
returns c = gone_after
