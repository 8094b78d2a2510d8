-- Single steps on a word.
use Rattle.std.specs.Prelude.{ℕ, ◌≤◌, ◌==◌, ⊤, Some, if◌then◌else◌}
use Rattle.cj_profile.specs.Words.{number}
use Rattle.cj_profile.specs.declared.layout.Word.{Word}
use Rattle.cj_profile.specs.declared.layout.Word.TheVariants.{Finished, Calls, Failures, Asked, Taken, Last, Agreed, Way}
use Rattle.cj_profile.specs.declared.view.Read.{Read}

-- the word keeps no asked level
abbrev pub IsFree : Word → Type 0
IsFree Finished = ⊤
IsFree (Calls f) = ⊤
IsFree (Failures f) = ⊤
IsFree (Asked f) = ⊥
IsFree (Taken f) = ⊤
IsFree (Last f param) = ⊤
IsFree (Agreed f param) = ⊤
IsFree (Way f label edge) = ⊤

-- an asked level is at most 3
abbrev pub IsLow : Word → ℕ → Type 0
IsLow Finished n = ⊤
IsLow (Calls f) n = ⊤
IsLow (Failures f) n = ⊤
IsLow (Asked f) n = n ≤ 3
IsLow (Taken f) n = ⊤
IsLow (Last f param) n = ⊤
IsLow (Agreed f param) n = ⊤
IsLow (Way f label edge) n = ⊤

-- a compare_exchange of a value for the expected one
abbrev pub exchanged : Word → ℕ → ℕ → ℕ → Read
exchanged w expected value found =
    record { word = number w; found = Some found; left = if found == expected then value else found }
