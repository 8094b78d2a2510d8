use Rattle.std.proofs.Common.{◌≡◌, map, take}
use Rattle.cj_ir.specs.declared.language.Program.{Program}
use Rattle.cj_draft.specs.Points.{waiting_of}
use Rattle.cj_draft.proofs.points.Point.frames.Given as goal

abbrev pub invariant-loop-frame : goal.invariant-loop-frame
invariant-loop-frame l = (P : Program) → l.waiting ≡ map (waiting_of P l.regs) (take l.frame-index l.frame-items)
