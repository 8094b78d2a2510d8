use Rattle.std.proofs.Common.{◌≡◌, ◌+◌, [], ◌∷◌, ◌++◌, length, get_or, take, sym, ap, ◌∙◌, subst, arith}
use Rattle.cj_ir.specs.declared.language.Label.{Label}
use Rattle.cj_links.specs.declared.edges.EdgeId.{EdgeId}
use Rattle.cj_links.specs.EdgeTable.{EdgeTable, edge_table, label_of, end_of, linked, lists_into, IsLinked, IsInto}
use Rattle.std.proofs.Common.{length-take-le}
use Rattle.std.proofs.lemmas.List.{take_more}
use Rattle.cj_links.proofs.Giving.{given_free, lists_more}
use Rattle.cj_links.proofs.edges.EdgeLists.of.Goals as goal

pub link-requires-clause-free : goal.link-requires-clause-free
link-requires-clause-free c = λ h.
    let edges = c.args.edges.now in
    let k = c.loop-at.at in
    let e : EdgeId = record { 0 = k } in
    let so_far = take k edges in
    let size = length-take-le k edges c.loop-at.auto.at-end in
    let v = edge_table edges (lists_into c.args.labels so_far) in
    given_free c.args.labels so_far (end_of v e) e (omega (arith, size)) (subst (λ (w : EdgeTable). IsLinked w e) c.loop-at.invariant.lists h)

pub loop-at-preserved : goal.loop-at-preserved
loop-at-preserved c =
    let edges = c.args.edges.now in
    let k = c.loop-at.at in
    let e : EdgeId = record { 0 = k } in
    let so_far = take k edges in
    let edge : Label × Label = get_or edges k (label_of 0, label_of 0) in
    let size : length so_far ≡ k = length-take-le k edges c.loop-at.auto.at-end in
    let more : take (k + 1) edges ≡ so_far ++ edge ∷ [] = take_more edges k (label_of 0, label_of 0) c.loop-at-test.true in
    let into : IsInto c.args.labels edge = c.requires.into k (label_of 0, label_of 0) c.loop-at-test.true in
    record {
      lists = c.link.ensures.lists ∙ ap (λ (v : EdgeTable). linked v e) c.loop-at.invariant.lists
          ∙ ap (edge_table edges) (lists_more c.args.labels so_far edge e (sym size) into ∙ ap (lists_into c.args.labels) (sym more));
      woven = c.link.ensures.woven;
    }
