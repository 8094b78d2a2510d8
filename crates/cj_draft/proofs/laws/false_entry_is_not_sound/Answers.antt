use Rattle.std.proofs.Common.{◌≡◌, ◌∙◌, sym, subst}
use Rattle.std.proofs.lemmas.Option.{same_Some}
use Rattle.cj_base.specs.Machine.{entry_regs}
use Rattle.cj_draft.specs.Arrives.{Allows}
use Rattle.cj_draft.proofs.laws.false_entry_is_not_sound.Goals as goal

pub returns : goal.returns
returns c = λ P context code place args takes satisfied at false sound.
    let entered = (sound.entry args takes satisfied).arrives in
    let same : entered.place ≡ place = same_Some entered.place place (sym entered.at ∙ at) in
    false (subst (λ p. Allows p.facts (entry_regs code.regs args)) same entered.admits.facts)
