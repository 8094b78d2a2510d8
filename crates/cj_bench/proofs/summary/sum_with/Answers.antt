use Rattle.std.proofs.Common.{rules}
use Rattle.std.proofs.lemmas.Int.{wraps}
use Rattle.cj_bench.proofs.summary.sum_with.Goals as goal

pub returns-in-Returned : goal.returns-in-Returned
returns-in-Returned c = search (rules, wraps)
