use Rattle.std.proofs.Common.{◌≡◌}
use Rattle.cj_base.specs.Machine.{config_of}
use Rattle.cj_base.specs.Fits.{Fits}
use Rattle.cj_base.specs.Run.{begun, Going, base_run}
use Rattle.cj_base.proofs.calls.run.Given as goal

abbrev pub invariant-loop-turn : goal.invariant-loop-turn
invariant-loop-turn l =
    Fits l.checked (config_of l.config) × (base_run l.checked (begun l.call) l.turn ≡ Going l.printed (config_of l.config))
