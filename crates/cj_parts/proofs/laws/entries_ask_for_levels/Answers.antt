use Rattle.cj_parts.proofs.Counting.{entry_asks}
use Rattle.cj_parts.proofs.laws.entries_ask_for_levels.Goals as goal

pub returns : goal.returns
returns c = λ f args rs h. entry_asks f args rs h
