use Rattle.std.proofs.Common.{◌≡◌, ◌<◌, length, sym, Some, arith}
use Rattle.std.specs.Prelude.{slice_get}
use Rattle.cj_ir.specs.declared.language.Label.{Label}
use Rattle.cj_draft.specs.Arrives.{place_at}
use Rattle.cj_ir.proofs.ListReads.{all_at}
use Rattle.cj_draft.specs.Edges.{listed}
use Rattle.cj_const.proofs.SearchCalls.{place-read, following-of, edges-of, search-of, taken-work}
use Rattle.cj_const.proofs.search.Search.step.Goals as goal

pub pass_all-requires-clause-following : goal.pass_all-requires-clause-following
pass_all-requires-clause-following c =
    let draft = c.args.draft.now in
    let w = c.args.self.now.waiting in
    let label = c.in-Some.label in
    let p = c.index-items-label.result in
    let first : slice_get w.list 0 ≡ Some label = sym c.in-Some.ensures.label in
    let low = all_at (λ (x : Label). x.0 < w.labels) w.list 0 label c.requires.waiting.orderly.within first in
    let inside : label.0 < length draft.code.places = omega (arith, low, c.requires.waiting.labels) in
    let at : place_at draft.code label
    ≡ Some p = place-read draft.code c.code.result.now c.items.result.now label p c.code.ensures.same c.items.ensures inside c.index-items-label.is in
    following-of draft.context draft.code c.args.self.now.rows w c.take.new.self label p (listed c.successors.result) at c.successors.ensures first
    c.take.ensures.rest c.take.ensures.orderly c.requires

pub pass_all-requires-clause-edges : goal.pass_all-requires-clause-edges
pass_all-requires-clause-edges c =
    let draft = c.args.draft.now in
    let w = c.args.self.now.waiting in
    let label = c.in-Some.label in
    let p = c.index-items-label.result in
    let first : slice_get w.list 0 ≡ Some label = sym c.in-Some.ensures.label in
    let low = all_at (λ (x : Label). x.0 < w.labels) w.list 0 label c.requires.waiting.orderly.within first in
    let inside : label.0 < length draft.code.places = omega (arith, low, c.requires.waiting.labels) in
    let at : place_at draft.code label
    ≡ Some p = place-read draft.code c.code.result.now c.items.result.now label p c.code.ensures.same c.items.ensures inside c.index-items-label.is in
    edges-of draft.code label p (listed c.successors.result) at c.successors.ensures

pub returns-clause-search : goal.returns-clause-search
returns-clause-search c =
    search-of c.args.draft.now.context c.args.draft.now.code c.pass_all.new.self.rows c.pass_all.new.self.waiting c.in-Some.label
    c.in_ok-pass_all.ensures.passed

pub returns-clause-work : goal.returns-clause-work
returns-clause-work c = λ more.
    let less = taken-work c.args.draft.now.code.regs c.args.self.now.rows c.args.self.now.waiting c.take.new.self c.in-Some.label
    (sym c.in-Some.ensures.label) c.take.ensures.rest in
    let rest = c.in_ok-pass_all.ensures.work in
    omega arith
