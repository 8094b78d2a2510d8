-- What a top call owes, by its command: the headline, the bytes, the cause of each status, completeness.
use Rattle.std.specs.Prelude.{◌≡◌, ◌≢◌, ℕ, ◌≤◌, ◌⊎◌, List, [], length, take, Option, Some, None, Result, Ok, Err}
use Rattle.cj_tokens.specs.declared.refusal.Refused.{Refused}
use Rattle.cj_io.specs.Reading.{GaveAtMost}
use Rattle.cj_ir.specs.declared.script.Input.{Input}
use Rattle.cj_text.specs.Reads.{Reads}
use Rattle.cj_driver.specs.Outside.{Outside, WasRead, Took, ToldWhole, ToldMore, TookMore, ReadRose, WriteRose, IsUnread, longest}
use Rattle.cj_driver.specs.Made.{IsNothing}
use Rattle.cj_driver.specs.Texts.{ReadsAs, Owes, OwesSummary, OwesTeam, OwesTeamSummary}
use Rattle.cj_driver.specs.declared.command.Command.{Command}
use Rattle.cj_driver.specs.declared.command.Command.TheVariants.{OnText, Bench}
use Rattle.cj_driver.specs.declared.team.TeamCommand.{TeamCommand}
use Rattle.cj_driver.specs.declared.team.TeamCommand.TheVariants as threads
use Rattle.cj_driver.specs.declared.finish.Finish.{Finish}
use Rattle.cj_driver.specs.declared.finish.Made.{Made}

-- ---- the headline and the bytes

-- the source's bytes, read to their end, are a text, and this is what is made of it
pub record HasAnswer
    {A : Type 0} (IsRead : List ℕ → Result A Refused → Type 0) (IsOwed : A → Made → List ℕ → Type 0) (o : Outside) (made : Made) (owed : List ℕ) : Type 0 where
  pub text : A
  pub read : WasRead IsRead o.given o.left (Ok text)
  pub owes : IsOwed text made owed

-- a stop: nothing was written and nothing was made
pub record IsStop (o : Outside) (f : Finish) : Type 0 where
  pub unwritten : Took o []
  pub nothing : IsNothing f.made

-- Status 0: the sink took the bytes that are owed for what was made. Status 5: a prefix of them. Any other: nothing.
pub record TopStands (IsOwed : Made → List ℕ → Type 0) (o : Outside) (f : Finish) : Type 0 where
  pub done : f.status ≡ 0 → (owed : List ℕ) × IsOwed f.made owed × Took o owed
  pub cut : f.status ≡ 5 → (owed : List ℕ) × (part : ℕ) × IsOwed f.made owed × Took o (take part owed)
  pub stop : f.status ≢ 0 → f.status ≢ 5 → IsStop o f

-- ---- the counts of faults

-- The source's rises by one with status 4, the sink's with status 5. With any other status both stay.
pub record CountsFaults (o : Outside) (f : Finish) : Type 0 where
  pub read : f.status ≡ 4 → ReadRose o
  pub read_calm : f.status ≢ 4 → o.read_faults_now ≡ o.read_faults
  pub write : f.status ≡ 5 → WriteRose o
  pub write_calm : f.status ≢ 5 → o.write_faults_now ≡ o.write_faults

-- ---- the causes of the statuses; want of memory, 6, may come at any time

abbrev pub IsStatus : ℕ → Type 0
IsStatus s = (s ≡ 0) ⊎ (s ≡ 3) ⊎ (s ≡ 4) ⊎ (s ≡ 5) ⊎ (s ≡ 6) ⊎ (s ≡ 7)

-- the bytes of the source, read to their end, are no text, and the first offence is the one that is told
pub record WasRefused {A : Type 0} (IsRead : List ℕ → Result A Refused → Type 0) (o : Outside) (f : Finish) : Type 0 where
  pub refused : Refused
  pub told : f.refused ≡ Some refused
  pub read : WasRead IsRead o.given o.left (Err refused)

pub record HasCauses {A : Type 0} (IsRead : List ℕ → Result A Refused → Type 0) (o : Outside) (f : Finish) : Type 0 where
  pub some : IsStatus f.status
  pub refused : f.status ≡ 3 → WasRefused IsRead o f
  pub refused_alone : f.status ≢ 3 → f.refused ≡ None
  pub refused_owed : (bytes : List ℕ) (r : Refused) → ToldWhole o bytes → IsRead bytes (Err r) → f.status ≢ 4 → (f.status ≡ 3) ⊎ (f.status ≡ 6)
  pub read : f.status ≡ 4 → GaveAtMost o.given o.left longest
  pub long : f.status ≡ 7 → TookMore o
  pub long_owed : ToldMore o → (f.status ≡ 7) ⊎ (f.status ≡ 6)

-- ---- completeness

-- the bytes of the source are a text, and no fault is counted
pub record IsCalm {A : Type 0} (IsRead : List ℕ → Result A Refused → Type 0) (o : Outside) : Type 0 where
  pub bytes : List ℕ
  pub text : A
  pub given : o.given ≡ Some bytes
  pub short : length bytes ≤ longest
  pub reads : IsRead bytes (Ok text)
  pub no_read_fault : ReadRose o → ⊥
  pub no_write_fault : WriteRose o → ⊥

-- then all is done, want of memory aside
abbrev pub IsComplete : {A : Type 0} → (List ℕ → Result A Refused → Type 0) → Outside → Finish → Type 0
IsComplete IsRead o f = IsCalm IsRead o → (f.status ≡ 0) ⊎ (f.status ≡ 6)

-- ---- the contract of a top call

-- of what is read from the source
pub record Answers
    {A : Type 0} (IsRead : List ℕ → Result A Refused → Type 0) (IsOwed : A → Made → List ℕ → Type 0) (o : Outside) (f : Finish) : Type 0 where
  pub headline : TopStands (HasAnswer IsRead IsOwed o) o f
  pub causes : HasCauses IsRead o f
  pub faults : CountsFaults o f
  pub complete : IsComplete IsRead o f

-- of a bench, which reads nothing
pub record AnswersUnread (IsOwed : Made → List ℕ → Type 0) (o : Outside) (f : Finish) : Type 0 where
  pub headline : TopStands IsOwed o f
  pub unread : IsUnread o
  pub some : (f.status ≡ 0) ⊎ (f.status ≡ 5) ⊎ (f.status ≡ 6)
  pub refused : f.refused ≡ None
  pub faults : CountsFaults o f
  pub complete : (WriteRose o → ⊥) → (f.status ≡ 0) ⊎ (f.status ≡ 6)

-- of words that are no form of the call: nothing is read
pub record IsUsage (o : Outside) (f : Finish) : Type 0 where
  pub status : f.status ≡ 2
  pub refused : f.refused ≡ None
  pub unread : IsUnread o
  pub faults : CountsFaults o f
  pub stop : IsStop o f

-- the call on one thread
abbrev pub ByWords : Option Command → Outside → Finish → Type 0
ByWords None o f = IsUsage o f
ByWords (Some (OnText task)) o f = Answers (ReadsAs task) (Owes task) o f
ByWords (Some (Bench number)) o f = AnswersUnread (OwesSummary number) o f

-- the call with callers and workers in threads
abbrev pub ByTeamWords : Option TeamCommand → Outside → Finish → Type 0
ByTeamWords None o f = IsUsage o f
ByTeamWords (Some (threads.Run team)) o f = Answers {A = Input} Reads (OwesTeam team) o f
ByTeamWords (Some (threads.Bench number team)) o f = AnswersUnread (OwesTeamSummary number team) o f
