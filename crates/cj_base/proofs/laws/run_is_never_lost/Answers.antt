use Rattle.cj_base.specs.Run.{base_run}
use Rattle.cj_base.proofs.RunLemmas.{run_fits, run_not_lost, run_fits_at}
use Rattle.cj_base.proofs.laws.run_is_never_lost.Goals as goal

pub returns-clause-never_lost : goal.returns-clause-never_lost
returns-clause-never_lost c = λ P call n formed takes. run_not_lost P (base_run P call n) (run_fits P call formed takes n)

pub returns-clause-fits : goal.returns-clause-fits
returns-clause-fits c = λ P call n printed conf formed takes e. run_fits_at P (base_run P call n) printed conf (run_fits P call formed takes n) e
