-- The turns of the labels of a list.
use Rattle.std.proofs.Common.{◌≡◌, ℕ, ◌+◌, ◌<◌, List, [], ◌∷◌, ◌++◌, length, Option, Some, None, refl, sym, ap, ◌∙◌, subst, ⊎_elim, append_assoc}
use Rattle.std.proofs.lemmas.Option.{none-some, slice_get_within}
use Rattle.cj_ir.specs.declared.language.FunId.{FunId}
use Rattle.cj_ir.specs.declared.language.Label.{Label}
use Rattle.cj_ir.specs.declared.language.Program.{Program}
use Rattle.cj_draft.specs.declared.facts.Fact.{Fact}
use Rattle.cj_draft.specs.declared.code.Place.{Place}
use Rattle.cj_draft.specs.declared.code.Code.{Code}
use Rattle.cj_draft.specs.declared.passes.Skipped.{Skipped}
use Rattle.cj_draft.specs.declared.passes.Skipped.TheVariants.{NoPlace}
use Rattle.cj_draft.specs.Arrives.{place_at}
use Rattle.cj_draft.specs.Sound.{Sound}
use Rattle.cj_draft.specs.Skips.{told}
use Rattle.cj_anchor.specs.AnchorInsertion.{offence_at, anchor_offence, anchored, AreAnchored, Placed, Passed}
use Rattle.cj_anchor.specs.OneAnchor.{IsAnchorStep}
use Rattle.cj_anchor.proofs.AnchorSound.{anchored_sound}

pub no_offence_within : (code : Code) (l : Label) → anchor_offence code l ≡ None → l.0 < length code.places
unfolding anchor_offence offence_at
no_offence_within code l none = by_place (place_at code l) refl none
  where
    by_place : (o : Option Place) → place_at code l ≡ o → offence_at code l o ≡ None → l.0 < length code.places
    by_place None at e = absurd (none-some (NoPlace l) (sym e))
    by_place (Some p) at e = slice_get_within code.places l.0 p at

pub step_sound : (P : Program) (context : List Fact) (f : FunId) (code : Code) (index : ℕ) (l : Label) (made : Code) (skips more : List (ℕ × Skipped)) →
    Sound P context f code → IsAnchorStep code index l made skips more → Sound P context f made
step_sound P context f code index l made skips more sound step = ⊎_elim
    (λ s. subst (Sound P context f) (sym s.1.same) (anchored_sound P context f code l s.1.place s.1.backs s.1.at s.1.with_own sound s.0))
    (λ s. subst (Sound P context f) (sym s.2) sound) step

pub step_function : (code : Code) (index : ℕ) (l : Label) (made : Code) (skips more : List (ℕ × Skipped)) → IsAnchorStep code index l made skips more →
    made.function ≡ code.function
unfolding anchored
step_function code index l made skips more step = ⊎_elim
    (λ s. ap (λ (k : Code). k.function) s.1.same)
    (λ s. ap (λ (k : Code). k.function) s.2) step

pub step_rest : (first : Code) (all : List Label) (code : Code) (index : ℕ) (l : Label) (labels : List Label) (made : Code) (skips more : List (ℕ × Skipped)) →
    IsAnchorStep code index l made skips more →
    ((end : Code) (later : List (ℕ × Skipped)) → AreAnchored index code (l ∷ labels) end later → AreAnchored 0 first all end (skips ++ later)) →
    (end : Code) (later : List (ℕ × Skipped)) → AreAnchored (index + 1) made labels end later → AreAnchored 0 first all end (more ++ later)
step_rest first all code index l labels made skips more step rest end later are = ⊎_elim
    (λ s. subst (λ (ss : List (ℕ × Skipped)). AreAnchored 0 first all end (ss ++ later)) (sym s.2)
    (rest end later (Placed index code made end l labels later s.0 s.1 are)))
    (λ s.
    let entry : List (ℕ × Skipped) = (told index, s.0) ∷ [] in
    let now = subst (λ (k : Code). AreAnchored (index + 1) k labels end later) s.2 are in
    let done = rest end (entry ++ later) (Passed index code end l labels s.0 later s.1 now) in
    subst (AreAnchored 0 first all end) (sym (ap (λ (ss : List (ℕ × Skipped)). ss ++ later) s.3 ∙ append_assoc skips entry later)) done) step
