use Rattle.cj_records.proofs.Showing.{known_there}
use Rattle.cj_records.proofs.laws.published_code_is_known.Goals as goal

pub returns : goal.returns
returns c = λ codes f level offset s skipped made h. known_there codes f level offset s skipped made h
