use Rattle.std.proofs.Common.{◌≡◌, ◌<◌, ◌+◌, ◌∙◌, Bool, List, ◌++◌, false, length, get_or, map, drop, reverse, sym, subst, arith}
use Rattle.std.proofs.lemmas.List.{drop_more}
use Rattle.std.proofs.Math.ListN.{drop_of_length-le}
use Rattle.cj_rows.specs.Edges.{led_place}
use Rattle.cj_rows.specs.Tables.{given}
use Rattle.cj_passes.specs.Lowering.{kept_of}
use Rattle.cj_passes.proofs.Keeping.{kept_step, kept_over}
use Rattle.cj_passes.proofs.lowering.kept_places.Goals as goal

pub loop-keeps-preserved : goal.loop-keeps-preserved
loop-keeps-preserved c =
    let kept = c.args.kept.now in
    let f = led_place (given c.args.table.now) in
    let n = c.loop-keeps.keeps-index in
    let rest = reverse c.loop-keeps.rest in
    let inside : n < length kept = omega arith in
    let all = map f (kept_of kept c.args.places) in
    let so_far = subst (λ (ks : List Bool). c.loop-keeps.made ++ map f (kept_of ks rest) ≡ all) (drop_more kept n false inside) c.loop-keeps.invariant in
    kept_step f c.loop-keeps.made c.move_next.new.made rest (reverse c.move_next.new.rest) (get_or kept n false) (drop (n + 1) kept) all
    c.in_ok-move_next.ensures.made c.in_ok-move_next.ensures.rest so_far

pub returns : goal.returns
returns c =
    let kept = c.args.kept.now in
    let f = led_place (given c.args.table.now) in
    sym (kept_over f c.loop-keeps.made (drop c.loop-keeps.keeps-index kept) (reverse c.loop-keeps.rest) (drop_of_length-le kept (omega arith)))
    ∙ c.loop-keeps.invariant
