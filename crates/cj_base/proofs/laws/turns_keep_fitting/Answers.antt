use Rattle.std.proofs.Common.{subst}
use Rattle.cj_base.specs.Fits.{FitsAfter}
use Rattle.cj_base.proofs.FitsLemmas.{turn_fits}
use Rattle.cj_base.proofs.laws.turns_keep_fitting.Goals as goal

pub returns-clause-has_turn : goal.returns-clause-has_turn
returns-clause-has_turn c = λ P conf formed fits e. subst (FitsAfter P) e (turn_fits P conf.stack conf.memory formed fits)

pub returns-clause-fits_again : goal.returns-clause-fits_again
returns-clause-fits_again c = λ P conf next printed formed fits e. subst (FitsAfter P) e (turn_fits P conf.stack conf.memory formed fits)
