-- Lookups, as a seat keeps them and as reports tell them.
use Rattle.std.specs.Prelude.{◌≡◌, ℕ, ◌≤◌, ◌⊎◌, List, [], ◌∷◌, ◌++◌, All, Contains}
use Rattle.std.specs.List.{AllPairs}
use Rattle.cj_calls.specs.declared.report.Look.{Look}
use Rattle.cj_calls.specs.declared.report.Report.{Report}
use Rattle.cj_publish.specs.declared.view.Cell.{Cell}
use Rattle.cj_publish.specs.declared.view.View.{View}
use Rattle.cj_publish.specs.Plays.{NotOlder}
use Rattle.cj_publish.specs.Seen.{SeenAt}
use Rattle.cj_publish.specs.Fetched.{main_of}

-- a look as its seat keeps it
abbrev pub looked : Look → Cell × ℕ
looked look = (main_of look.function, look.offset)

-- the looks of reports, in order
unfoldable pub looks_of : List Report → List Look
looks_of [] = []
looks_of (r ∷ rs) = r.looks ++ looks_of rs

-- the offsets of one function never fall
abbrev pub NeverFall : List Look → Type 0
NeverFall looks = AllPairs (λ (x y : Look). x.function ≡ y.function → x.offset ≤ y.offset) looks

-- the look is at least each of these for its function
abbrev pub IsAbove : List Look → Look → Type 0
IsAbove floor look = All (λ (x : Look). x.function ≡ look.function → x.offset ≤ look.offset) floor

-- the look finds the newest of these for its function, or nothing where there is none
abbrev pub IsNewest : List Look → Look → Type 0
IsNewest floor look = IsAbove floor look × ((look.offset ≡ 0) ⊎ Contains floor look)

-- the look is no older than what the view has seen
abbrev pub IsNotOlder : View → Look → Type 0
IsNotOlder v look = NotOlder v (main_of look.function) look.offset

-- the view has seen what the look tells
abbrev pub IsSeen : View → Look → Type 0
IsSeen v look = SeenAt v (main_of look.function) look.offset

-- the look found nothing, or what the view has seen
abbrev pub FoundIn : View → Look → Type 0
FoundIn v look = (look.offset ≡ 0) ⊎ IsSeen v look
