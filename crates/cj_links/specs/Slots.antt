-- How the waiting labels lie in a ring of slots, with a mark for each label that waits.
use Rattle.std.specs.Prelude.{◌≡◌, ℕ, ◌-◌, ◌≤◌, Bool, true, List, ◌++◌, length, take, drop, count_by, Contains, Some, slice_get}
use Rattle.cj_ir.specs.declared.language.Label.{Label}
use Rattle.cj_links.specs.Waiting.{waiting, IsOrderly}

-- the n slots from the k-th on, around the end
abbrev pub window : {A : Type 0} → ℕ → ℕ → List A → List A
window k n slots = take n (drop k slots ++ take k slots)

-- the marks are those of the labels in the list
pub record AreMarked (list : List Label) (marks : List Bool) : Type 0 where
  pub number : length list ≡ count_by (λ mark. mark) marks
  pub marked : (label : Label) → Contains list label → slice_get marks label.0 ≡ Some true
  pub listed : (label : Label) → slice_get marks label.0 ≡ Some true → Contains list label

-- the labels lie in n slots from the k-th on, and the marks are theirs
pub record IsRing (slots : List Label) (k n : ℕ) (marks : List Bool) : Type 0 where
  pub start : k ≤ length slots - 1
  pub few : n ≤ length slots
  pub lengths : length marks ≡ length slots
  pub marks_of : AreMarked (window k n slots) marks
  pub orderly : IsOrderly (waiting (length slots) (window k n slots))
