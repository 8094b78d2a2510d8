use Rattle.std.proofs.Common.{◌≡◌, ◌∙◌, ◌<◌, List, Some, length, get_or, sym, ap, subst, arith}
use Rattle.std.specs.Prelude.{slice_get}
use Rattle.std.proofs.lemmas.Option.{slice_get-get_or, slice_get_within}
use Rattle.cj_ir.specs.declared.language.Label.{Label}
use Rattle.cj_passes.specs.Lowering.{passed}
use Rattle.cj_passes.specs.Search.{AreFollowed}
use Rattle.cj_passes.proofs.Searching.{grows_contains, followed_more, search_ends}
use Rattle.cj_passes.proofs.reach.reached.Goals as goal

pub loop-followed-preserved : goal.loop-followed-preserved
loop-followed-preserved c =
    let code = c.args.code.now in
    let old = c.loop-followed.search.found in
    let new = c.follow.new.self.found in
    let n = c.loop-followed.followed in
    let zero_label : Label = record { 0 = 0 } in
    let x : Label = get_or c.items-in-loop-followed.result.now n zero_label in
    let inside : n < length old = omega (arith, ap length c.items.ensures) in
    let at : slice_get old n ≡ Some x = slice_get-get_or old n zero_label inside
    ∙ ap (λ (xs : List Label). Some (get_or xs n zero_label)) (sym c.items-in-loop-followed.ensures) in
    let grows = c.in_ok-follow.ensures.grows in
    let inside' : n < length new = slice_get_within new n x (grows n x at) in
    record {
      search = c.in_ok-follow.ensures.search;
      entry = grows_contains old new (passed code code.entry) grows c.loop-followed.invariant.entry;
      followed = followed_more code old new n x grows at inside c.loop-followed.invariant.followed c.in_ok-follow.ensures.followed;
      within = omega arith;
    }

pub returns : goal.returns
returns c =
    let code = c.args.code.now in
    let kept = c.loop-followed.search.kept in
    let found = c.loop-followed.search.found in
    let all : c.loop-followed.followed ≡ length found = omega (arith, ap length c.items.ensures) in
    search_ends code kept found c.loop-followed.invariant.search c.loop-followed.invariant.entry
    (subst (AreFollowed code found) all c.loop-followed.invariant.followed)
