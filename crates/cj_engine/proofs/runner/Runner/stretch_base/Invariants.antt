use Rattle.std.proofs.Common.{◌≡◌}
use Rattle.cj_base.specs.declared.machine.Turned.TheVariants.{Running}
use Rattle.cj_ir.specs.declared.language.Label.{Label}
use Rattle.cj_activations.specs.Changes.{position_of}
use Rattle.cj_activations.specs.declared.windows.Position.TheVariants.{Base}
use Rattle.cj_machine.specs.Machines.{state_of}
use Rattle.cj_engine.specs.Watching.{Gains, Keeps}
use Rattle.cj_engine.specs.Stretches.{Onward}
use Rattle.cj_engine.proofs.runner.Runner.stretch_base.Given as goal

abbrev pub invariant-loop : goal.invariant-loop
invariant-loop g l = record {
  onward : Onward l.fn.self.checked.now (g.W.Watch.went l.fn.watch l.watch) (g.W.Watch.codes l.watch) l.self.machine.looks l.counter
      (state_of l.fn.self.machine) Running (state_of l.self.machine);
  place : l.counter ≡ 0 → (label : Label) × (position_of l.self.machine.activations.top ≡ Base l.function label);
  gains : Gains l.fn.self.machine.looks l.self.machine.looks (g.W.Watch.trail l.fn.watch) (g.W.Watch.trail l.watch);
  checked : l.self.checked ≡ l.fn.self.checked;
  keeps : Keeps g.W.Watch.program g.W.Watch.codes g.W.Watch.stays g.W.Watch.ready l.fn.watch l.watch;
}
