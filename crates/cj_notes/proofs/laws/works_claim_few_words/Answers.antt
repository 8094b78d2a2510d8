use Rattle.cj_notes.proofs.Telling.{few_words}
use Rattle.cj_notes.proofs.laws.works_claim_few_words.Goals as goal

pub returns : goal.returns
returns c = λ P note made h. few_words P note made h
