use Rattle.std.proofs.Common.{ℕ, ◌∷◌, [], ◌++◌, List, sym, ap, ◌∙◌, arith}
use Rattle.std.proofs.lemmas.List.FromFn.{map-range_with_len_more}
use Rattle.cj_links.specs.declared.edges.Node.{Node}
use Rattle.cj_links.specs.Threads.{node}
use Rattle.cj_links.proofs.edges.nodes_alone.Goals as goal

pub loop-at-preserved : goal.loop-at-preserved
loop-at-preserved c =
    let at = c.loop-at.at in
    c.in_ok-push.ensures.ok ∙ ap (λ (ns : List Node). ns ++ node at at ∷ []) c.loop-at.invariant
    ∙ sym (map-range_with_len_more (λ (k : ℕ). node k k) 0 at at (omega arith))
