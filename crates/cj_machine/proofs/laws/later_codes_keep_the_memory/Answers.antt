use Rattle.cj_machine.proofs.Memories.{memory_kept}
use Rattle.cj_machine.proofs.laws.later_codes_keep_the_memory.Goals as goal

pub returns : goal.returns
returns c = λ P codes later looks call memory found g. memory_kept P call codes later looks memory g found
