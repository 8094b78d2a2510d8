-- What the source and the sink of a top call tell, before and after it.
use Rattle.std.specs.Prelude.{◌≡◌, ℕ, ◌+◌, ◌<◌, ◌≤◌, List, [], length, Option, Some, Result, IfSome}
use Rattle.std.specs.Io.KnownBytes.{Appends, IsAtEnd}
use Rattle.cj_tokens.specs.declared.refusal.Refused.{Refused}
use Rattle.cj_io.specs.Faults.{Rose}
use Rattle.cj_io.specs.Reading.{GaveMore}

pub record Outside : Type 0 where
  -- the bytes that are left in the source, where it tells them
  pub given : Option (List ℕ)
  pub left : Option (List ℕ)
  -- the bytes that the sink has taken, where it tells them
  pub had : Option (List ℕ)
  pub has : Option (List ℕ)
  -- the counts of faults
  pub read_faults : ℕ
  pub read_faults_now : ℕ
  pub write_faults : ℕ
  pub write_faults_now : ℕ

abbrev pub outside : (given left had has : Option (List ℕ)) (read_faults read_faults_now write_faults write_faults_now : ℕ) → Outside
outside given left had has read_faults read_faults_now write_faults write_faults_now = record {
  given = given;
  left = left;
  had = had;
  has = has;
  read_faults = read_faults;
  read_faults_now = read_faults_now;
  write_faults = write_faults;
  write_faults_now = write_faults_now;
}

-- the longest input, in bytes
abbrev pub longest : ℕ
longest = 4194304

-- the sink took these bytes
abbrev pub Took : Outside → List ℕ → Type 0
Took o bytes = Appends o.had o.has bytes

-- these are all the bytes of a source, which was read to its end
pub record AreWhole (given left : Option (List ℕ)) (bytes : List ℕ) : Type 0 where
  pub all : IfSome given (λ known. bytes ≡ known)
  pub «end» : IsAtEnd left
  pub short : length bytes ≤ longest

-- the bytes of a source, read to its end, are this text, or are refused with this first offence, and nothing else
pub record WasRead
    {A : Type 0} (Reads : List ℕ → Result A Refused → Type 0) (given left : Option (List ℕ)) (answer : Result A Refused) : Type 0 where
  pub bytes : List ℕ
  pub whole : AreWhole given left bytes
  pub reads : Reads bytes answer
  pub only : (other : Result A Refused) → Reads bytes other → other ≡ answer

-- the source tells that these bytes, which are not too many, were all taken
pub record ToldWhole (o : Outside) (bytes : List ℕ) : Type 0 where
  pub given : o.given ≡ Some bytes
  pub left : o.left ≡ Some []
  pub short : length bytes ≤ longest

-- the source tells that more bytes than the longest input has were taken
pub record ToldMore (o : Outside) : Type 0 where
  pub bytes : List ℕ
  pub rest : List ℕ
  pub given : o.given ≡ Some bytes
  pub left : o.left ≡ Some rest
  pub more : longest + length rest < length bytes

-- more bytes than that were taken, where the source tells them
abbrev pub TookMore : Outside → Type 0
TookMore o = GaveMore o.given o.left longest

-- the source counted one fault more
abbrev pub ReadRose : Outside → Type 0
ReadRose o = Rose o.read_faults o.read_faults_now

-- the sink counted one fault more
abbrev pub WriteRose : Outside → Type 0
WriteRose o = Rose o.write_faults o.write_faults_now

-- nothing was asked of the source
pub record IsUnread (o : Outside) : Type 0 where
  pub left : o.left ≡ o.given
  pub faults : o.read_faults_now ≡ o.read_faults
