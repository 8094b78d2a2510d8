-- What ties the fields of a seat to its view.
use Rattle.std.specs.Prelude.{◌≡◌, ℕ, ◌+◌, ◌<◌, ◌≤◌, Bool, false, Option, Some, None, length}
use Rattle.cj_publish.specs.declared.view.Claim.{Claim}
use Rattle.cj_publish.specs.declared.view.Region.{Region}
use Rattle.cj_publish.specs.declared.view.View.{View}
use Rattle.cj_publish.specs.declared.seats.Held.{Held}
use Rattle.cj_publish.specs.Words.{Each}

-- two numbers are one
abbrev pub Same : ℕ → ℕ → Type 0
Same a b = a ≡ b

abbrev pub IsHeld : Option Claim → Option Held → Type 0
IsHeld None None = Unit {0}
IsHeld (Some c) (Some h) = Same h.offset c.offset × Same h.len c.len × Same h.written (length c.written)
IsHeld None (Some h) = ⊥
IsHeld (Some c) None = ⊥

-- each region that the seat has seen begins within the table, and its claim lies within
pub record IsWithin (v : View) : Type 0 where
  pub claim : (c : Claim) → v.claim ≡ Some c → c.offset + c.len ≤ v.key.size
  pub within : Each (λ (r : Region). r.offset < v.key.size) v.regions

-- the seat keeps how many seats were split off it; off one that is not the first there were none
pub record IsCounted (v : View) (first : Bool) (splits : ℕ) : Type 0 where
  pub count : v.splits ≡ splits
  pub later : first ≡ false → splits ≡ 0
