-- Effects whose edges are led to other labels.
use Rattle.cj_ir.specs.declared.language.Label.{Label}
use Rattle.cj_base.specs.Machine.{Effect, On, Calls, Returns, Faults}
use Rattle.cj_draft.specs.Effects.{VersionEffect, Plain, Guarded}

-- each next label becomes the one that `r` gives for it
unfoldable pub relabel_plain : (Label → Label) → Effect → Effect
relabel_plain r (On next regs m printed) = On (r next) regs m printed
relabel_plain r (Calls dest f args next) = Calls dest f args (r next)
relabel_plain r (Returns value) = Returns value
relabel_plain r (Faults fault) = Faults fault

unfoldable pub relabel_effect : (Label → Label) → VersionEffect → VersionEffect
relabel_effect r (Plain effect) = Plain (relabel_plain r effect)
relabel_effect r (Guarded holds back target next) = Guarded holds back target (r next)
