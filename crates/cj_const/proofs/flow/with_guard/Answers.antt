use Rattle.std.proofs.Common.{◌≡◌, ◌∙◌, ◌<◌, length, List, Some, None, Option, sym, ap, subst, arith, to_z, of_z, w64}
use Rattle.std.specs.Prelude.{ℤ}
use Rattle.std.proofs.lemmas.Int.{to_z-of_z}
use Rattle.cj_ir.specs.declared.language.Guard.{Guard}
use Rattle.cj_draft.specs.WellNamed.{IsGuardWithin}
use Rattle.cj_const.specs.Knowledge.{Knowledge, known, with_known}
use Rattle.cj_const.specs.Flow.{with_guard, with_value}
use Rattle.cj_const.proofs.Rows.{known_after}
use Rattle.cj_const.proofs.flow.with_guard.Goals as goal

pub returns-in-None-clause-leaves : goal.returns-in-None-clause-leaves
unfolding with_guard with_value
returns-in-None-clause-leaves c =
    let row = c.args.row.now in
    let reg = c.in-Is.reg in
    let k : Knowledge = known row in
    let value : to_z w64 (of_z w64 c.in-Is.value) ≡ c.in-Is.value = grind (arith, to_z-of_z) in
    let none : None ≡ k reg.0 = sym c.in-None.is ∙ c.known.ensures ∙ ap (λ (xs : List (Option ℤ)). known xs reg.0) c.items.ensures in
    let within : reg.0 < length row = subst (IsGuardWithin (length row)) c.in-Is.is c.requires in
    ap Some (known_after row c.set.new.self reg.0 _ c.set.ensures within)
    ∙ ap (λ v. Some (with_known k reg.0 (Some v))) value
    ∙ ap (with_value k reg c.in-Is.value) none
    ∙ sym (ap (λ (g : Guard). with_guard g k) c.in-Is.is)
