use Rattle.std.proofs.Common.{refl, sym, subst, List}
use Rattle.std.specs.Prelude.{reverse}
use Rattle.std.specs.List.{AllZip}
use Rattle.cj_ir.specs.declared.script.ScriptCall.{ScriptCall}
use Rattle.cj_roles.specs.Slots.{IsFor, HasEnded}
use Rattle.cj_roles.proofs.Standing.{is_run}
use Rattle.cj_roles.proofs.Turned.{zip_reverse, zip_turned}
use Rattle.cj_roles.proofs.run.run_in_threads.Goals as goal

pub run_slots-requires-clause-run : goal.run_slots-requires-clause-run
run_slots-requires-clause-run g c κs within = is_run c.args.input.now c.args.store.now _ refl c.items.ensures refl refl c.requires.store

pub run_slots-requires-clause-given : goal.run_slots-requires-clause-given
run_slots-requires-clause-given g c κs within =
    let v = c.requires.given.0 in
    let roles = c.requires.given.1 in
    let is_for = IsFor c.args.store.now.code c.args.store.now.profile v in
    (v, reverse roles, subst (AllZip is_for (reverse roles)) (sym c.reverse.ensures.after) (zip_reverse is_for roles c.args.slots.now c.requires.given.2))

pub returns : goal.returns
returns g c = λ v roles zip.
    let t = c.args.store.now.code in
    let p = c.args.store.now.profile in
    let given = subst (AllZip (IsFor t p v) (reverse roles)) (sym c.reverse.ensures.after) (zip_reverse (IsFor t p v) roles c.args.slots.now zip) in
    let ended = c.run_slots.ensures v (reverse roles) given in
    let of_input = subst (λ (calls : List ScriptCall). AllZip (HasEnded calls t p v) (reverse roles) c.run_slots.new.slots) c.items.ensures ended in
    let ends = HasEnded c.args.input.now.script.calls t p v in
    subst (AllZip ends roles) (sym c.reverse-2.ensures.after) (zip_turned ends roles c.run_slots.new.slots of_input)
