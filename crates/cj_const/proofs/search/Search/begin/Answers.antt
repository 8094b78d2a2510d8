use Rattle.std.proofs.Common.{◌≡◌, ◌∙◌, ℕ, List, Option, Some, None, length, replicate, ap, ap₂, subst}
use Rattle.std.specs.Prelude.{ℤ, slice_get, slice_set}
use Rattle.cj_ir.specs.declared.language.Label.{Label}
use Rattle.cj_links.specs.Waiting.{Waiting, none_waits}
use Rattle.cj_draft.specs.declared.code.Code.{Code}
use Rattle.cj_const.specs.Knowledge.{told_by}
use Rattle.cj_const.specs.Search.{LetsWait}
use Rattle.cj_const.proofs.FoldSound.{context-wider}
use Rattle.cj_const.proofs.SearchEnds.{search-begins}
use Rattle.cj_const.proofs.search.Search.begin.Goals as goal

abbrev Row : Type 0
Row = List (Option ℤ)

pub returns : goal.returns
returns c =
    let draft = c.args.draft.now in
    let code = draft.code in
    let same = c.code-code.ensures.same in
    let row = c.in_ok-row.row in
    let w = c.change.new.self.waiting in
    let labels : length c.items.result.now ≡ length code.places = ap length (c.items.ensures ∙ ap (λ (z : Code). z.places) same) in
    let named = c.code-code.ensures.sound.named in
    search-begins draft.context code c.change.new.self.rows w row code.regs
    (context-wider (slice_get draft.program.functions code.function.0) code.regs draft.context named.params c.context.ensures.fits)
    (c.in_ok-row.ensures.told ∙ ap told_by (c.items-2.ensures ∙ c.context.ensures.same))
    (c.in_ok-row.ensures.width ∙ ap (λ (z : Code). z.regs) same)
    named.entry
    (c.change.ensures.rows ∙ ap₂ (λ (rows : List (Option Row)) (e : ℕ). slice_set rows e (Some row)) (c.in_ok-rows.ensures ∙ ap (λ n. replicate n None) labels)
    (ap (λ (z : Code). z.entry.0) same))
    (subst (λ (l : Label). LetsWait (none_waits (length code.places)) w l) (ap (λ (z : Code). z.entry) same)
    (subst (λ (v : Waiting). LetsWait v w c.code-code.result.now.entry) (c.in_ok-waiting.ensures.list ∙ ap none_waits labels) c.change.ensures.waits))
