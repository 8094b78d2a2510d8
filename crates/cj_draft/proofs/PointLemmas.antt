-- The frames of a point, from its first frame and the others.
use Rattle.std.proofs.Common.{◌≡◌, ◌<◌, List, [], ◌∷◌, length, map, drop, refl, arith}
use Rattle.std.specs.Prelude.{ℤ, slice_index_or}
use Rattle.cj_ir.specs.declared.language.Program.{Program}
use Rattle.cj_draft.specs.declared.points.PointFrame.{PointFrame}
use Rattle.cj_draft.specs.Points.{top_of, waiting_of, stack_of}

pub stack_of-parts : (P : Program) (frames : List PointFrame) (regs : List ℤ) (d : PointFrame) → 0 < length frames →
    stack_of P frames regs ≡ record { top = top_of P regs (slice_index_or frames 0 d); waiting = map (waiting_of P regs) (drop 1 frames) }
unfolding stack_of
stack_of-parts P [] regs d h = absurd (omega arith)
stack_of-parts P (first ∷ others) regs d h = refl
