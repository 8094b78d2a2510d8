-- What the two halves of a top call owe: the reading, and what follows it.
use Rattle.std.specs.Prelude.{◌≡◌, ◌≢◌, ℕ, ◌⊎◌, List, [], take, Option, None, Some, Result, Err}
use Rattle.cj_tokens.specs.declared.refusal.Refused.{Refused}
use Rattle.std.specs.Io.KnownBytes.{Appends}
use Rattle.cj_io.specs.Faults.{Rose}
use Rattle.cj_io.specs.Reading.{GaveAtMost, GaveMore}
use Rattle.cj_driver.specs.Outside.{WasRead, longest}
use Rattle.cj_driver.specs.Made.{IsNothing}
use Rattle.cj_driver.specs.declared.finish.Finish.{Finish}
use Rattle.cj_driver.specs.declared.finish.Made.{Made}
use Rattle.cj_driver.specs.declared.reading.Stop.{Stop}
use Rattle.cj_driver.specs.declared.reading.Stop.TheVariants as stop
use Rattle.cj_driver.specs.declared.words.WordsError.{WordsError}
use Rattle.cj_driver.specs.declared.words.WordsError.TheVariants as words
use Rattle.cj_driver.specs.declared.words.WordsError.{WordsError}
use Rattle.cj_driver.specs.declared.words.WordsError.TheVariants as words

-- why no text was read, and whether the source counted a fault
abbrev pub StopStands : {A : Type 0} → (List ℕ → Result A Refused → Type 0) → (given left : Option (List ℕ)) → (faults faults_now : ℕ) → Stop → Type 0
StopStands IsRead given left faults faults_now (stop.Refused r) = WasRead IsRead given left (Err r) × (faults_now ≡ faults)
StopStands IsRead given left faults faults_now stop.ReadFault = Rose faults faults_now × GaveAtMost given left longest
StopStands IsRead given left faults faults_now stop.TooLong = GaveMore given left longest × (faults_now ≡ faults)
StopStands IsRead given left faults faults_now stop.NoMemory = faults_now ≡ faults

-- why no bytes were read
abbrev pub BytesStop : (given left : Option (List ℕ)) → (faults faults_now : ℕ) → Stop → Type 0
BytesStop given left faults faults_now (stop.Refused r) = ⊥
BytesStop given left faults faults_now stop.ReadFault = Rose faults faults_now × GaveAtMost given left longest
BytesStop given left faults faults_now stop.TooLong = GaveMore given left longest × (faults_now ≡ faults)
BytesStop given left faults faults_now stop.NoMemory = faults_now ≡ faults

-- what came of what was made, and of the bytes that are owed for it
pub record Finishes (IsOwed : Made → List ℕ → Type 0) (had has : Option (List ℕ)) (faults faults_now : ℕ) (f : Finish) : Type 0 where
  pub some : (f.status ≡ 0) ⊎ (f.status ≡ 5) ⊎ (f.status ≡ 6)
  pub refused : f.refused ≡ None
  pub done : f.status ≡ 0 → (owed : List ℕ) × IsOwed f.made owed × Appends had has owed
  pub cut : f.status ≡ 5 → (owed : List ℕ) × (part : ℕ) × IsOwed f.made owed × Appends had has (take part owed)
  pub fault : f.status ≡ 5 → Rose faults faults_now
  pub calm : f.status ≢ 5 → faults_now ≡ faults
  pub none : f.status ≡ 6 → IsNothing f.made × Appends had has []

abbrev pub stop_status : Stop → ℕ
stop_status (stop.Refused r) = 3
stop_status stop.ReadFault = 4
stop_status stop.TooLong = 7
stop_status stop.NoMemory = 6

abbrev pub stop_refused : Stop → Option Refused
stop_refused (stop.Refused r) = Some r
stop_refused s = None

-- how a call ends where no text was read
pub record StopFinishes (s : Stop) (f : Finish) : Type 0 where
  pub status : f.status ≡ stop_status s
  pub refused : f.refused ≡ stop_refused s
  pub nothing : IsNothing f.made

-- how a call ends whose words are not known: as usage where one is no text
abbrev pub words_status : WordsError → ℕ
words_status words.NotText = 2
words_status words.NoMemory = 6

pub record EndsWithoutWords (e : WordsError) (f : Finish) : Type 0 where
  pub status : f.status ≡ words_status e
  pub refused : f.refused ≡ None
  pub nothing : IsNothing f.made

-- What was made, and the bytes that are owed for it: the bytes went out, or a prefix of them.
pub record Writes (made : Made) (owed : List ℕ) (had has : Option (List ℕ)) (faults faults_now : ℕ) (f : Finish) : Type 0 where
  pub some : (f.status ≡ 0) ⊎ (f.status ≡ 5)
  pub refused : f.refused ≡ None
  pub kept : f.made ≡ made
  pub done : f.status ≡ 0 → Appends had has owed
  pub cut : f.status ≡ 5 → (part : ℕ) × Appends had has (take part owed)
  pub fault : f.status ≡ 5 → Rose faults faults_now
  pub calm : f.status ≢ 5 → faults_now ≡ faults
