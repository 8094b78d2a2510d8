use Rattle.std.proofs.Common.{◌≡◌, Some}
use Rattle.cj_draft.specs.Arrives.{place_at}
use Rattle.cj_draft.specs.Edges.{listed}
use Rattle.cj_const.proofs.SearchCalls.{edges-of}
use Rattle.cj_sparse.specs.Losses.{label_of}
use Rattle.cj_sparse.proofs.SearchCalls.{first-item, first-rests, step-search, step-less, item-place}
use Rattle.cj_sparse.proofs.search.Search.step.Goals as goal

pub follow-requires-clause-edges : goal.follow-requires-clause-edges
follow-requires-clause-edges c =
    let draft = c.args.draft.now in
    let old = c.args.self.now in
    let item = c.in-Some.item in
    let p = c.index-items-label.result in
    let mine = first-item draft.context draft.code old.rows.items old.work.items c.pop_front.new.self.items item c.in-Some.ensures.items c.requires in
    let at : place_at draft.code (label_of item)
    ≡ Some p = item-place draft.code c.code.result.now c.items.result.now old.rows.items item c.label.result p mine c.label.ensures c.code.ensures.same
    c.items.ensures c.index-items-label.is in
    edges-of draft.code (label_of item) p (listed c.successors.result) at c.successors.ensures

pub follow-requires-clause-rest : goal.follow-requires-clause-rest
follow-requires-clause-rest c =
    let draft = c.args.draft.now in
    let old = c.args.self.now in
    let item = c.in-Some.item in
    let p = c.index-items-label.result in
    let mine = first-item draft.context draft.code old.rows.items old.work.items c.pop_front.new.self.items item c.in-Some.ensures.items c.requires in
    let at : place_at draft.code (label_of item)
    ≡ Some p = item-place draft.code c.code.result.now c.items.result.now old.rows.items item c.label.result p mine c.label.ensures c.code.ensures.same
    c.items.ensures c.index-items-label.is in
    first-rests draft.context draft.code old.rows.items old.work.items c.pop_front.new.self.items item c.in-Some.ensures.items c.requires p
    (listed c.successors.result) at c.successors.ensures

pub returns-clause-search : goal.returns-clause-search
returns-clause-search c =
    let draft = c.args.draft.now in
    let old = c.args.self.now in
    let new = c.follow.new.self in
    let item = c.in-Some.item in
    let p = c.index-items-label.result in
    let mine = first-item draft.context draft.code old.rows.items old.work.items c.pop_front.new.self.items item c.in-Some.ensures.items c.requires in
    let at : place_at draft.code (label_of item)
    ≡ Some p = item-place draft.code c.code.result.now c.items.result.now old.rows.items item c.label.result p mine c.label.ensures c.code.ensures.same
    c.items.ensures c.index-items-label.is in
    step-search draft.context draft.code old.rows.items old.work.items c.pop_front.new.self.items item c.in-Some.ensures.items c.requires new.rows.items
    new.work.items p (listed c.successors.result) at c.successors.ensures c.in_ok-follow.ensures.goes c.in_ok-follow.ensures.passed

pub returns-clause-work : goal.returns-clause-work
returns-clause-work c = λ more.
    let draft = c.args.draft.now in
    let old = c.args.self.now in
    step-less draft.context draft.code old.rows.items old.work.items c.pop_front.new.self.items c.in-Some.item c.in-Some.ensures.items c.requires
    c.follow.new.self.rows.items c.follow.new.self.work.items c.in_ok-follow.ensures.goes
