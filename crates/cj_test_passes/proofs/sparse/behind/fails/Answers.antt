use Rattle.std.proofs.Common.{◌≡◌, negsuc, sym, subst}
use Rattle.cj_ir.specs.declared.language.Operand.{Operand}
use Rattle.cj_base.specs.Machine.{Faults, BadAddress}
use Rattle.cj_draft.specs.declared.instructions.VInstr.{VInstr}
use Rattle.cj_draft.specs.declared.instructions.VInstr.TheVariants.{Store}
use Rattle.cj_draft.specs.Effects.{version_effect, Plain}
use Rattle.cj_test_passes.proofs.DeadSound.{store_fails}
use Rattle.cj_test_passes.proofs.sparse.behind.fails.Goals as goal

pub returns-in-Store : goal.returns-in-Store
returns-in-Store c =
    let s = c.in-Store in
    λ e regs m. subst (λ (i : VInstr). version_effect i regs m ≡ Plain (Faults (BadAddress (negsuc 0)))) (sym s.is)
    (subst (λ (a : Operand). version_effect (Store a s.value s.next) regs m ≡ Plain (Faults (BadAddress (negsuc 0)))) (sym (c.is_nowhere.ensures e))
    (store_fails s.value s.next regs m))
