use Rattle.std.proofs.Common.{◌≡◌, ◌∙◌, ◌+◌, ◌<◌, ◌≤◌, refl, sym, ap, subst, arith, List, [], ◌∷◌, ◌++◌, length, take, Some}
use Rattle.std.specs.Prelude.{All, slice_get}
use Rattle.std.proofs.lemmas.Option.{slice_get_read, same_Some}
use Rattle.std.proofs.lemmas.List.{take_all, take_more_set}
use Rattle.std.proofs.lemmas.List.Elements.{All-nil, All-push}
use Rattle.cj_ir.specs.declared.language.Program.{Program}
use Rattle.cj_world.specs.declared.runs.Run.{Run}
use Rattle.cj_world.specs.Worlds.{finished, steps}
use Rattle.cj_world.specs.Running.{IsThrough, world_of}
use Rattle.cj_world.proofs.Changing.{finished_more}
use Rattle.cj_world.proofs.world.World.finish.Goals as goal

pub loop-place-init : goal.loop-place-init
unfolding finished
loop-place-init c =
    record { made = refl; checked = refl; words = refl; begun = refl; through = All-nil IsThrough; orderly = c.requires.orderly }

pub loop-place-preserved : goal.loop-place-preserved
loop-place-preserved c =
    let i = c.loop-place.invariant in
    let e = c.in_ok-go.ensures in
    let P = c.args.self.now.cache.checked.now in
    let items = c.loop-place.self.runs.items in
    let k = c.loop-place.place in
    let run = c.index.result.now in
    let below : k < length items = (let begun = i.begun in omega arith) in
    let at : slice_get items k ≡ Some run = slice_get_read items _ k run refl below c.index.ensures in
    let same : run ≡ e.gone.was = same_Some run e.gone.was (sym at ∙ e.gone.at) in
    let through : IsThrough e.gone.now = e.gone.through (ap (λ (r : Run). r.call.now.limit) (sym same)) in
    let made = subst (λ (Q : Program). world_of c.go.new.self ≡ steps Q k run.call.now.limit (world_of c.loop-place.self)) i.checked e.made in
    let all : take (k + 1) c.go.new.self.runs.items ≡ take k items ++ e.gone.now ∷ [] = ap (λ (rs : List Run). take (k + 1) rs) e.gone.instead
    ∙ take_more_set items k e.gone.now below in
    record {
      made = finished_more P k (world_of c.args.self.now) c.loop-place.self c.go.new.self run i.made at made;
      checked = e.checked ∙ i.checked;
      words = e.words ∙ i.words;
      begun = e.begun ∙ i.begun;
      through = subst (All IsThrough) (sym all) (All-push IsThrough (take k items) e.gone.now i.through through);
      orderly = e.orderly;
    }

pub returns-clause-through : goal.returns-clause-through
returns-clause-through c =
    let i = c.loop-place.invariant in
    let items = c.loop-place.self.runs.items in
    let past : length items ≤ c.loop-place.place = (let begun = i.begun in omega arith) in
    subst (All IsThrough) (take_all c.loop-place.place items past) i.through
