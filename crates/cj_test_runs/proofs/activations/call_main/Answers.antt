use Rattle.cj_activations.proofs.Cuts.{called_has_dest}
use Rattle.cj_test_runs.proofs.activations.call_main.Goals as goal

pub returns : goal.returns
returns c = called_has_dest _ _ _ _ _ _ _ _ c.in_ok-call.ensures.ok c.requires
