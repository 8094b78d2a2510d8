-- Anchors before the labels of a list are inserted in one way.
use Rattle.std.proofs.Common.{◌≡◌, ℕ, ◌+◌, List, ◌∷◌, refl, sym, ap₂, ◌∙◌, subst}
use Rattle.std.proofs.lemmas.Option.{same_Some, none-some}
use Rattle.cj_ir.specs.declared.language.Label.{Label}
use Rattle.cj_draft.specs.declared.code.Place.{Place}
use Rattle.cj_draft.specs.declared.code.Code.{Code}
use Rattle.cj_draft.specs.declared.passes.Skipped.{Skipped}
use Rattle.cj_draft.specs.Sound.{pair_of}
use Rattle.cj_draft.specs.Skips.{told}
use Rattle.cj_rows.specs.Pairs.{AreWith}
use Rattle.cj_rows.proofs.WithPairs.{with_alike}
use Rattle.cj_anchor.specs.AnchorInsertion.{anchored, IsAnchored, AreAnchored, Finished, Placed, Passed}

pub anchored_unique : (code : Code) (label : Label) (one other : Code) → IsAnchored code label one → IsAnchored code label other → one ≡ other
anchored_unique code label one other a b =
    let place : a.place ≡ b.place = same_Some a.place b.place (sym a.at ∙ b.at) in
    let own = subst (λ (p : Place). AreWith p.backs (pair_of 0 p.point) a.backs) place a.with_own in
    let backs = with_alike b.place.backs (pair_of 0 b.place.point) a.backs b.backs own b.with_own in
    a.same ∙ ap₂ (anchored code label) place backs ∙ sym b.same

-- the same code and the same skips
abbrev Alike : Code → Code → List (ℕ × Skipped) → List (ℕ × Skipped) → Type 0
Alike one other skips skips' = (one ≡ other) × (skips ≡ skips')

pub anchors_unique : (index : ℕ) (code : Code) (labels : List Label) (one other : Code) (skips skips' : List (ℕ × Skipped)) →
    AreAnchored index code labels one skips → AreAnchored index code labels other skips' → Alike one other skips skips'
anchors_unique index code labels one other skips skips' (Finished i k) (Finished i' k') = (refl, refl)
anchors_unique index code labels one other skips skips' (Placed i k next made l ls ss none a rest) (Placed i' k' next' made' l' ls' ss' none' a' rest') =
    anchors_unique (i + 1) next ls made made' ss ss' rest (subst (λ (c : Code). AreAnchored (i + 1) c ls made' ss') (anchored_unique k l next' next a' a) rest')
anchors_unique index code labels one other skips skips' (Placed i k next made l ls ss none a rest) (Passed i' k' made' l' ls' skipped ss' some rest') =
    absurd (none-some skipped (sym none ∙ some))
anchors_unique index code labels one other skips skips' (Passed i k made l ls skipped ss some rest) (Placed i' k' next' made' l' ls' ss' none' a' rest') =
    absurd (none-some skipped (sym none' ∙ some))
anchors_unique index code labels one other skips skips' (Passed i k made l ls skipped ss some rest) (Passed i' k' made' l' ls' skipped' ss' some' rest') =
    let ih = anchors_unique (i + 1) k ls made made' ss ss' rest rest' in
    (ih.0, ap₂ (λ (s : Skipped) (more : List (ℕ × Skipped)). entry i s ∷ more) (same_Some skipped skipped' (sym some ∙ some')) ih.1)
  where
    entry : ℕ → Skipped → ℕ × Skipped
    entry n s = (told n, s)
