use Rattle.std.proofs.Common.{◌≡◌, ◌-◌}
use Rattle.cj_machine.specs.Machines.{state_of}
use Rattle.cj_engine.specs.Engines.{HasRoom}
use Rattle.cj_engine.specs.Stretches.{Quiet}
use Rattle.cj_ir.specs.declared.language.Label.{Label}
use Rattle.cj_activations.specs.Changes.{position_of}
use Rattle.cj_activations.specs.declared.windows.Position.TheVariants.{Version}
use Rattle.cj_engine.proofs.runner.Runner.glide.Given as goal

abbrev pub invariant-loop : goal.invariant-loop
invariant-loop g l = record {
  quiet : Quiet l.fn.self.checked.now (g.W.Watch.codes l.watch) l.counter (state_of l.fn.self.machine) (state_of l.self.machine);
  place : (label : Label) × (position_of l.self.machine.activations.top ≡ Version l.fn.function l.fn.offset label);
  room : HasRoom l.fn.self.checked.now (g.W.Watch.codes l.watch) (l.count - l.counter) (state_of l.self.machine);
  looks : l.self.machine.looks ≡ l.fn.self.machine.looks;
  checked : l.self.checked ≡ l.fn.self.checked;
}
