use Rattle.cj_codec.proofs.Apart.{spellings_apart}
use Rattle.cj_codec.proofs.laws.spellings_are_apart.Goals as goal

pub returns : goal.returns
returns c = spellings_apart
