use Rattle.std.proofs.Common.{◌≡◌, ◌∙◌, ◌++◌, ℕ, List, [], ◌∷◌, Option, Some, None, length, replicate, ap, ap₂}
use Rattle.std.specs.Prelude.{ℤ, slice_get, slice_set}
use Rattle.cj_ir.specs.declared.language.Label.{Label}
use Rattle.cj_draft.specs.declared.code.Code.{Code}
use Rattle.cj_const.specs.Knowledge.{told_by}
use Rattle.cj_const.proofs.FoldSound.{context-wider}
use Rattle.cj_sparse.specs.declared.search.Work.{Work}
use Rattle.cj_sparse.specs.declared.search.Work.TheVariants.{Reached}
use Rattle.cj_sparse.proofs.SearchEnds.{sparse-begins}
use Rattle.cj_sparse.proofs.search.Search.begin.Goals as goal

abbrev Row : Type 0
Row = List (Option ℤ)

pub returns : goal.returns
returns c =
    let draft = c.args.draft.now in
    let code = draft.code in
    let same = c.code-code.ensures.same in
    let row = c.in_ok-row.row in
    let labels : length c.items-2.result.now ≡ length code.places = ap length (c.items-2.ensures ∙ ap (λ (z : Code). z.places) same) in
    let named = c.code-code.ensures.sound.named in
    sparse-begins draft.context code c.reach.new.self.rows.items row code.regs
    (context-wider (slice_get draft.program.functions code.function.0) code.regs draft.context named.params c.context.ensures.fits)
    (c.in_ok-row.ensures.told ∙ ap told_by (c.items.ensures ∙ c.context.ensures.same))
    (c.in_ok-row.ensures.width ∙ ap (λ (z : Code). z.regs) same)
    named.entry
    (c.in_ok-reach.ensures.rows
    ∙ ap₂ (λ (rows : List (Option Row)) (e : ℕ). slice_set rows e (Some row)) (c.in_ok-rows.ensures ∙ ap (λ n. replicate n None) labels)
    (ap (λ (z : Code). z.entry.0) same))
    c.reach.new.self.work.items
    (c.in_ok-reach.ensures.work ∙ ap₂ (λ (ws : List Work) (l : Label). ws ++ Reached l ∷ []) c.new-work.ensures.items (ap (λ (z : Code). z.entry) same))
