use Rattle.cj_parts.proofs.Calling.{known_stand}
use Rattle.cj_parts.proofs.laws.versions_read_whole_keep_the_headline.Goals as goal

pub returns : goal.returns
returns c = λ P v call r ok e formed takes is. known_stand c.reports_have_the_headline.ensures P v call r ok e formed takes is
