use Rattle.std.proofs.Common.{◌∙◌, sym, ap, length}
use Rattle.cj_ir.specs.Program.{regs_of}
use Rattle.cj_engine.proofs.Carrying.{base_entered, version_entered}
use Rattle.cj_engine.proofs.places.entry_at.Goals as goal

pub returns-then-offset-eq0 : goal.returns-then-offset-eq0
returns-then-offset-eq0 g c = λ args.
    base_entered _ _ _ _ _ args c.if-offset-eq0.true (ap regs_of c.function.ensures.found ∙ sym (ap length c.items.ensures))

pub returns-else-offset-eq0 : goal.returns-else-offset-eq0
returns-else-offset-eq0 g c = λ args. rw c.code-code.ensures.same (version_entered _ _ _ _ _ args c.if-offset-eq0.false c.version.ensures.code)
