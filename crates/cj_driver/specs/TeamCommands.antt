-- The words of the command line that ask for callers and workers in threads.
use Rattle.std.specs.Prelude.{ℕ, Bool, true, ◌&&◌, ◌-◌, ◌+◌, ◌≤◌, nat_le, List, [], ◌∷◌, Option, Some, None, codes, if◌then◌else◌}
use Rattle.std.specs.Str.{bytes_eq}
use Rattle.cj_tokens.specs.Spellings.{value}
use Rattle.cj_driver.specs.Commands.{is_bench_number}
use Rattle.cj_driver.specs.declared.team.Team.{Team}
use Rattle.cj_driver.specs.declared.team.TeamCommand.{TeamCommand}
use Rattle.cj_driver.specs.declared.team.TeamCommand.TheVariants.{Run, Bench}

pub record IsFew (team : Team) : Type 0 where
  pub some : 1 ≤ team.callers
  pub few_callers : team.callers ≤ 4
  pub few_workers : team.workers ≤ 4

-- the team of a command
abbrev pub team_in : TeamCommand → Team
team_in (Run team) = team
team_in (Bench number team) = team

-- a word of one digit, from the least to the greatest
unfoldable pub digit_of : ℕ → ℕ → List ℕ → Option ℕ
digit_of least greatest [] = None
digit_of least greatest (byte ∷ []) = if nat_le (48 + least) byte && nat_le byte (48 + greatest) then Some (byte - 48) else None
digit_of least greatest (byte ∷ next ∷ more) = None

unfoldable pub team_with : Option ℕ → Option ℕ → Option Team
team_with (Some callers) (Some workers) = Some (record { callers = callers; workers = workers })
team_with None workers = None
team_with (Some callers) None = None

-- 1 to 4 callers, and 0 to 4 workers
unfoldable pub team_of : List ℕ → List ℕ → Option Team
team_of callers workers = team_with (digit_of 1 4 callers) (digit_of 0 4 workers)

unfoldable pub run_of : Option Team → Option TeamCommand
run_of None = None
run_of (Some team) = Some (Run team)

unfoldable pub bench_with : List ℕ → Option Team → Option TeamCommand
bench_with number None = None
bench_with number (Some team) = if is_bench_number number then Some (Bench (value 0 number) team) else None

-- the command that the words are, if they are a form of the call
unfoldable pub team_command_of : List (List ℕ) → Option TeamCommand
team_command_of (word ∷ callers ∷ workers ∷ []) = if bytes_eq word (codes "run") then run_of (team_of callers workers) else None
team_command_of (word ∷ number ∷ callers ∷ workers ∷ []) = if bytes_eq word (codes "bench") then bench_with number (team_of callers workers) else None
team_command_of [] = None
team_command_of (word ∷ []) = None
team_command_of (word ∷ next ∷ []) = None
team_command_of (word ∷ next ∷ third ∷ fourth ∷ fifth ∷ more) = None
