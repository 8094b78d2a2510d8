use Rattle.std.proofs.Common.{◌≡◌, take}
use Rattle.cj_draft.specs.BaseBody.{base_places}
use Rattle.cj_draft.proofs.base_body.base_places.Given as goal

abbrev pub invariant-loop-index : goal.invariant-loop-index
invariant-loop-index l = l.places ≡ base_places l.f l.regs (take l.index l.lines)
