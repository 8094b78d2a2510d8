-- A table and its seats.
use Rattle.std.specs.Prelude.{◌≡◌, ℕ, ◌<◌, true, Some, length}
use Rattle.cj_ir.specs.declared.language.Program.{Program}
use Rattle.cj_publish.specs.declared.view.Key.{Key}
use Rattle.cj_publish.specs.declared.view.View.{View}
use Rattle.cj_publish.specs.declared.seats.CodeTable.{CodeTable}
use Rattle.cj_publish.specs.declared.seats.CodeSeat.{CodeSeat}
use Rattle.cj_publish.specs.declared.view.Claim.{Claim}
use Rattle.cj_publish.specs.Views.{with_claim, appended}
use Rattle.cj_publish.specs.Reliable.{IsReliable}
use Rattle.cj_publish.specs.Cells.{program_in, key_in}

-- what the seat knows
abbrev pub view_of : CodeSeat → View
view_of s = s.seat.me.0

-- what its seats agree on
abbrev pub key_of : CodeTable → Key
key_of t = key_in t.table.shared.key

-- the program that the table was made for
abbrev pub program_of : CodeTable → Program
program_of t = program_in (key_of t)

-- the seat is one of the table's, and was not joined into another
pub record IsSeatOf (t : CodeTable) (s : CodeSeat) : Type 0 where
  pub table : s.seat.table_id ≡ t.table.shared.table_id
  pub live : (view_of s).live ≡ true
  pub key : (view_of s).key ≡ key_of t

-- besides, what it knows is confirmed
pub record Belongs (t : CodeTable) (s : CodeSeat) : Type 0 where
  pub table : s.seat.table_id ≡ t.table.shared.table_id
  pub live : (view_of s).live ≡ true
  pub key : (view_of s).key ≡ key_of t
  pub reliable : IsReliable (view_of s)

-- there never was another seat at the seat's table
abbrev pub IsSole : CodeSeat → Type 0
IsSole s = (view_of s).sole ≡ true

-- the seat is the same: whether it is first, how many splits it made, and whether it is the only one that there ever was
pub record IsSame (old new : CodeSeat) : Type 0 where
  pub table : new.seat.table_id ≡ old.seat.table_id
  pub first : new.first ≡ old.first
  pub splits : new.splits ≡ old.splits
  pub sole : (view_of new).sole ≡ (view_of old).sole

-- the claim has room for a word
abbrev pub HasRoom : View → Type 0
HasRoom v = (c : Claim) × (v.claim ≡ Some c) × (length c.written < c.len)

-- the word is the next one of the claim, and nothing else has changed
abbrev pub Writes : View → ℕ → View → Type 0
Writes v x w = (c : Claim) → v.claim ≡ Some c → w ≡ with_claim v (Some (appended c x))
