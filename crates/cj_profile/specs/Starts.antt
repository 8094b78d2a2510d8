-- What the steps of the only seat find: what the steps before them left, and 0 where there was none.
use Rattle.std.specs.Prelude.{◌≡◌, ℕ, ◌==◌, ⊤, Option, Some, None, List, [], ◌∷◌, ◌++◌, if◌then◌else◌}
use Rattle.cj_profile.specs.declared.view.Read.{Read}

-- what a word is after the steps, where it was n before them
abbrev pub left_in : ℕ → ℕ → List Read → ℕ
left_in word n [] = n
left_in word n (r ∷ rs) = left_in word (if r.word == word then r.left else n) rs

-- what a step finds in a word, behind those steps; a store tells of nothing
abbrev pub Finds : List Read → ℕ → Option ℕ → Type 0
Finds before word (Some n) = n ≡ left_in word 0 before
Finds before word None = ⊤

-- each of the steps, which stand behind those, finds what was left
abbrev pub FindLeft : List Read → List Read → Type 0
FindLeft before [] = ⊤
FindLeft before (r ∷ rs) = Finds before r.word r.found × FindLeft (before ++ r ∷ []) rs

-- steps on words that are all 0 at first, with none of another seat between them
abbrev pub FromZeros : List Read → Type 0
FromZeros rs = FindLeft [] rs
