use Rattle.std.proofs.Common.{subst, sym}
use Rattle.cj_session.specs.Versions.{EntriesKnown}
use Rattle.cj_session.proofs.Going.{none_known}
use Rattle.cj_session.proofs.versions.Versions.new.Goals as goal

pub returns : goal.returns
returns c = record { known = λ P v. subst (EntriesKnown P v) (sym c.new.ensures.empty) (none_known P v) }
