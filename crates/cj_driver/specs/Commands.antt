-- The words of the command line.
use Rattle.std.specs.Prelude.{ℕ, true, false, Bool, ◌&&◌, nat_le, List, [], ◌∷◌, length, Option, Some, None, codes, if◌then◌else◌}
use Rattle.std.specs.Char.{is_ascii_digit}
use Rattle.std.specs.List.{list_all}
use Rattle.std.specs.Str.{bytes_eq}
use Rattle.cj_tokens.specs.Spellings.{value}
use Rattle.cj_driver.specs.declared.command.Command.{Command}
use Rattle.cj_driver.specs.declared.command.Command.TheVariants.{OnText, Bench}
use Rattle.cj_driver.specs.declared.command.Task.TheVariants.{OnInput, OnReplay}
use Rattle.cj_driver.specs.declared.command.Job.TheVariants.{Alone, Format}

-- the command of one word
unfoldable pub command_named : List ℕ → Option Command
command_named word =
    if bytes_eq word (codes "alone") then Some (OnText (OnInput (Alone false))) else
    (if bytes_eq word (codes "format") then Some (OnText (OnInput Format)) else
    (if bytes_eq word (codes "replay") then Some (OnText (OnReplay false)) else None))

-- one to six decimal digits
abbrev pub is_bench_number : List ℕ → Bool
is_bench_number word = list_all is_ascii_digit word && (nat_le 1 (length word) && nat_le (length word) 6)

-- the bench of that number
unfoldable pub bench_of : List ℕ → Option Command
bench_of word = if is_bench_number word then Some (Bench (value 0 word)) else None

-- the command of two words
unfoldable pub command_with : List ℕ → List ℕ → Option Command
command_with word next =
    if bytes_eq word (codes "bench") then bench_of next else
    (if bytes_eq next (codes "stats") then (
    if bytes_eq word (codes "alone") then Some (OnText (OnInput (Alone true))) else
    (if bytes_eq word (codes "replay") then Some (OnText (OnReplay true)) else None))
    else None)

-- the command that the words are, if they are a form of the call
unfoldable pub command_of : List (List ℕ) → Option Command
command_of [] = None
command_of (word ∷ []) = command_named word
command_of (word ∷ next ∷ []) = command_with word next
command_of (word ∷ next ∷ last ∷ more) = None
