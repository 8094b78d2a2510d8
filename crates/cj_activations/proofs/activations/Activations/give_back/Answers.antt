use Rattle.std.proofs.Common.{◌≡◌, ◌∙◌, sym, refl, rules, [], to_z, of_z, w64}
use Rattle.std.proofs.lemmas.List.{nil_from_length}
use Rattle.cj_activations.proofs.Cuts.{returned_within, returned_seen, none_to_take}
use Rattle.cj_activations.proofs.activations.Activations.give_back.Goals as goal

pub set_value-requires : goal.set_value-requires
set_value-requires c =
    rw c.truncate.ensures.items (returned_within _ _ _ _ _ _ _ c.in-Some.ensures.items c.self.view_is c.requires)

pub returns-in-Some : goal.returns-in-Some
returns-in-Some c =
    let value : to_z w64 (of_z w64 c.args.value) ≡ c.args.value = search (rules, c.ranges.value.sfits) in
    let set = rw (value, c.truncate.ensures.items) at c.set_value.ensures in
    returned_seen _ _ _ _ _ _ _ _ _ _ _ c.in-Some.ensures.items refl refl refl set c.self.view_is

pub returns-in_default : goal.returns-in_default
returns-in_default c =
    let none : c.self.inside.waiting.items ≡ [] = nil_from_length _ (sym c.self.inside.waiting.ok.0 ∙ c.in_default.ensures.cases.0) in
    let is = rw none at c.self.view_is in
    absurd (none_to_take _ _ _ _ is c.requires)
