-- The pairs of a label, with one more.
use Rattle.std.specs.Prelude.{◌≡◌, ◌⊎◌, List, [], ◌∷◌, ◌++◌, Contains}
use Rattle.cj_draft.specs.declared.code.Back.{Back}

-- the pairs with this one appended, where it is missing
abbrev pub AreWith : List Back → Back → List Back → Type 0
AreWith backs pair all = (Contains backs pair × (all ≡ backs)) ⊎ (¬ Contains backs pair × (all ≡ backs ++ pair ∷ []))
