use Rattle.std.proofs.Common.{◌≡◌, ◌∙◌, sym, refl, subst, List}
use Rattle.std.proofs.lemmas.Iterator.Adapters.{YieldsList-from_vec}
use Rattle.std.proofs.lemmas.Iterator.Consumers.{YieldsList-end}
use Rattle.cj_roles.specs.declared.role.Slot.{Slot}
use Rattle.cj_roles.specs.Joined.{IsJoining}
use Rattle.cj_roles.proofs.Joins.{joining_none, joining_more, joins_all, each_itself}
use Rattle.cj_roles.proofs.joining.join_all.Goals as goal

pub loop-slot-init : goal.loop-slot-init
loop-slot-init c = joining_none c.args.warm c.args.store.now _ c.requires.store c.new.ensures.items refl

pub loop-slot-preserved : goal.loop-slot-preserved
loop-slot-preserved c =
    joining_more c.args.warm c.args.store.now c.loop-slot.yielded c.in-Some.slot c.loop-slot.store c.join_slot.new.store c.loop-slot.answers
    c.join_slot.new.answers c.loop-slot.invariant c.in_ok-join_slot.ensures

pub returns : goal.returns
returns c =
    let gives = c.into_iter-slot-iterator.ensures.into_iter_gives in
    let end = YieldsList-end (YieldsList-from_vec {s = c.into_iter-slot-iterator.result} c.args.slots.items gives.0 (gives.1 ∙ c.args.slots.ok.0))
    c.loop-slot.yielded c.loop-slot.slot-iterator c.loop-slot.yielded_by c.next.result c.next.new.self c.in-None.is c.next.ensures.steps in
    let all : c.loop-slot.yielded ≡ c.args.slots.items = sym (each_itself c.loop-slot.yielded) ∙ end.0 in
    joins_all c.args.warm c.args.store.now c.args.slots.items c.loop-slot.store _ c.loop-slot.answers
    (subst (λ (slots : List Slot). IsJoining slots c.args.warm c.args.store.now c.loop-slot.answers c.loop-slot.store) all c.loop-slot.invariant)
    c.confirm.ensures.own refl refl refl c.confirm.ensures.same.0 c.confirm.ensures.same.1
