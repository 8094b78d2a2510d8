-- The search for a label of a list that is not in the draft.
use Rattle.std.proofs.Common.{◌≡◌, ◌∙◌, ℕ, ◌+◌, ◌<◌, ◌≤◌, List, ◌∷◌, length, drop, get_or, Some, None, sym, ap, refl}
use Rattle.std.proofs.lemmas.Bool.{lt-ltb, le-ltb}
use Rattle.std.proofs.lemmas.List.{drop_more}
use Rattle.std.proofs.Math.ListN.{drop_of_length-le}
use Rattle.cj_ir.specs.declared.language.Label.{Label}
use Rattle.cj_draft.specs.declared.code.Code.{Code}
use Rattle.cj_draft.specs.declared.passes.Skipped.TheVariants.{NoPlace}
use Rattle.cj_rows.specs.Guards.{or_next, if_missing}
use Rattle.cj_delay.specs.DelayedAssume.{missing_offence}

label_here : (code : Code) (label : Label) (labels : List Label) → length code.places ≤ label.0 → missing_offence code (label ∷ labels) ≡ Some (NoPlace label)
unfolding missing_offence or_next if_missing
label_here code label labels h = rw (le-ltb label.0 (length code.places) h) refl

label_later : (code : Code) (label : Label) (labels : List Label) → label.0 < length code.places →
    missing_offence code (label ∷ labels) ≡ missing_offence code labels
unfolding missing_offence or_next if_missing
label_later code label labels h = rw (lt-ltb label.0 (length code.places) h) refl

pub missing_found : (code : Code) (labels : List Label) (i : ℕ) (d : Label) → i < length labels →
    missing_offence code (drop i labels) ≡ missing_offence code labels → length code.places ≤ (get_or labels i d).0 →
    Some (NoPlace (get_or labels i d)) ≡ missing_offence code labels
missing_found code labels i d h so_far out =
    sym (label_here code (get_or labels i d) (drop (i + 1) labels) out)
    ∙ ap (missing_offence code) (sym (drop_more labels i d h)) ∙ so_far

pub missing_past : (code : Code) (labels : List Label) (i : ℕ) (d : Label) → i < length labels →
    missing_offence code (drop i labels) ≡ missing_offence code labels → (get_or labels i d).0 < length code.places →
    missing_offence code (drop (i + 1) labels) ≡ missing_offence code labels
missing_past code labels i d h so_far inside =
    sym (label_later code (get_or labels i d) (drop (i + 1) labels) inside)
    ∙ ap (missing_offence code) (sym (drop_more labels i d h)) ∙ so_far

pub missing_none : (code : Code) (labels : List Label) (i : ℕ) → length labels ≤ i → missing_offence code (drop i labels) ≡ missing_offence code labels →
    None ≡ missing_offence code labels
unfolding missing_offence
missing_none code labels i h so_far = sym (ap (missing_offence code) (drop_of_length-le labels h)) ∙ so_far
