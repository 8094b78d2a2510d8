use Rattle.std.proofs.Common.{◌≡◌, ◌∙◌, ◌+◌, ◌≤◌, sym, ap, subst, ℕ, List, length, drop}
use Rattle.std.specs.List.{AllZip}
use Rattle.std.proofs.lemmas.List.{length-map}
use Rattle.cj_ir.specs.declared.language.Program.{Program}
use Rattle.cj_events.specs.declared.events.Event.{Event}
use Rattle.cj_events.specs.Playable.{EachCanHappen}
use Rattle.cj_world.specs.Worlds.{World, codes_in, first_world, finished}
use Rattle.cj_world.specs.Plays.{Happens, AllHappen}
use Rattle.cj_world.specs.Caches.{made_in}
use Rattle.cj_world.specs.Running.{run_of, world_of, IsToldOf}
use Rattle.cj_world.proofs.Playing.{happened_more, happened_all, next_can}
use Rattle.cj_world.proofs.Answering.{answers}
use Rattle.cj_world.proofs.plays.play_in.Goals as goal

pub loop-event-init : goal.loop-event-init
unfolding world_of first_world
loop-event-init c =
    let e = c.in_ok-world.ensures in
    let P = c.args.checked.now in
    let es = c.items-event-items.result.now in
    record {
      happened = λ after rest. subst (λ (w : World). AllHappen P c.args.words es w after) e.made rest;
      checked = e.checked;
      words = e.words;
      can = let none : length c.in_ok-world.world.runs.items ≡ 0 =
          sym (length-map c.in_ok-world.world.runs.items run_of) ∙ ap (λ (w : World). length w.runs) e.made in
          subst (λ (n : ℕ). EachCanHappen P.functions n es) (sym none)
          (subst (λ (xs : List Event). EachCanHappen P.functions 0 xs) (sym c.items-event-items.ensures) c.requires.fits);
      orderly = e.orderly;
    }

pub loop-event-preserved : goal.loop-event-preserved
loop-event-preserved c =
    let i = c.loop-event.invariant in
    let e = c.in_ok-happen.ensures in
    let P = c.args.checked.now in
    let es = c.items-event-items.result.now in
    let k = c.loop-event.event-index in
    let event = c.event-item.result in
    let lt = c.loop-event-test.true in
    let w = world_of c.loop-event.world in
    let v = world_of c.happen.new.self in
    let happens = subst (λ (Q : Program). Happens Q c.args.words event w v) i.checked
    (subst (λ (n : ℕ). Happens c.loop-event.world.cache.checked.now n event w v) i.words e.made) in
    record {
      happened = happened_more P c.args.words es (first_world P) k w v event lt c.event-item.is happens i.happened;
      checked = e.checked ∙ i.checked;
      words = e.words ∙ i.words;
      can = let later = (next_can P.functions es k (length c.loop-event.world.runs.items) event lt c.event-item.is i.can).1 in
          subst (λ (n : ℕ). EachCanHappen P.functions n (drop (k + 1) es)) (sym e.begun) later;
      orderly = e.orderly;
    }

pub returns : goal.returns
unfolding world_of
returns c =
    let i = c.loop-event.invariant in
    let f = c.in_ok-finish.ensures in
    let t = c.in_ok-played.ensures in
    let P = c.args.checked.now in
    let es = c.items-event-items.result.now in
    let k = c.loop-event.event-index in
    let last : World = world_of c.loop-event.world in
    let w = c.finish.new.self in
    let past : length es ≤ k = c.loop-event-test.false in
    let happened = subst (λ (xs : List Event). AllHappen P c.args.words xs (first_world P) last) c.items-event-items.ensures
    (happened_all P c.args.words es (first_world P) k last past i.happened) in
    let ended = subst (λ (Q : Program). world_of w ≡ finished Q (length c.loop-event.world.runs.items) last) i.checked f.made
    ∙ ap (λ (n : ℕ). finished P n last) (sym (length-map c.loop-event.world.runs.items run_of)) in
    let checked = f.checked ∙ i.checked in
    let told = subst (λ (Q : Program). AllZip (IsToldOf Q (codes_in (made_in w.cache))) w.runs.items c.in_ok-played.played.reports) checked t.reports in
    answers c.reports_have_the_headline.ensures P c.args.words c.args.events.now last w c.in_ok-played.played c.program-program.ensures.well_formed checked
    happened ended f.orderly told t.compiled t.skips
