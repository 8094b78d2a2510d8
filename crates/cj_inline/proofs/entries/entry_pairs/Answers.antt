use Rattle.std.proofs.Common.{◌+◌, ◌-◌, ◌∙◌, List, [], ◌∷◌, ◌++◌, drop, sym, ap, append_assoc, append-nil, arith}
use Rattle.cj_draft.specs.declared.instructions.Pair.{Pair}
use Rattle.cj_draft.specs.Inlining.{entry_pairs}
use Rattle.cj_inline.specs.Entries.{entry_pair}
use Rattle.cj_inline.proofs.EntryPairs.{next_pair, no_pair}
use Rattle.cj_inline.proofs.entries.entry_pairs.Goals as goal

pub loop-index-preserved : goal.loop-index-preserved
loop-index-preserved c =
    let first = c.args.first in
    let args = c.args.args.now in
    let count = c.args.count in
    let i = c.loop-index.index in
    let pairs = c.loop-index.pairs in
    let rest = entry_pairs (first + (i + 1)) (drop (i + 1) args) (count - (i + 1)) in
    ap (λ (ps : List Pair). ps ++ rest) (c.in_ok-push.ensures.ok ∙ ap (λ (p : Pair). pairs ++ p ∷ []) c.entry_pair.ensures)
    ∙ append_assoc pairs (entry_pair first args i ∷ []) rest
    ∙ ap (λ (ps : List Pair). pairs ++ ps) (sym (next_pair first count i args c.loop-index-test.true))
    ∙ c.loop-index.invariant

pub returns : goal.returns
returns c =
    let i = c.loop-index.index in
    sym (append-nil c.loop-index.pairs)
    ∙ ap (λ (ps : List Pair). c.loop-index.pairs ++ ps) (sym (no_pair (c.args.first + i) (c.args.count - i) (drop i c.args.args.now) (omega arith)))
    ∙ c.loop-index.invariant
