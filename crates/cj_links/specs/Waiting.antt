-- A list of waiting labels: each waits once, and the longest waiting is the first.
use Rattle.std.specs.Prelude.{◌≢◌, ℕ, ◌<◌, ◌≤◌, List, [], ◌∷◌, ◌++◌, length, drop, All, AllPairs}
use Rattle.cj_ir.specs.declared.language.Label.{Label}

-- so many labels may wait, and those that do, the longest waiting first
pub record Waiting : Type 0 where
  pub labels : ℕ
  pub list : List Label

abbrev pub waiting : ℕ → List Label → Waiting
waiting labels list = record { labels = labels; list = list }

-- none waits
abbrev pub none_waits : ℕ → Waiting
none_waits labels = waiting labels []

-- one label more waits
abbrev pub with_last : Waiting → Label → Waiting
with_last w label = waiting w.labels (w.list ++ label ∷ [])

-- the longest waiting label waits no longer
abbrev pub without_first : Waiting → Waiting
without_first w = waiting w.labels (drop 1 w.list)

-- each waiting label is one of those that may wait, and waits once
pub record IsOrderly (w : Waiting) : Type 0 where
  pub few : length w.list ≤ w.labels
  pub within : All (λ label. label.0 < w.labels) w.list
  pub once : AllPairs (λ one other. one ≢ other) w.list
