use Rattle.std.proofs.Common.{◌≡◌}
use Rattle.cj_draft.specs.BaseBody.{identity}
use Rattle.cj_draft.proofs.base_body.identity.Given as goal

abbrev pub invariant-loop-reg : goal.invariant-loop-reg
invariant-loop-reg l = l.map ≡ identity l.reg
