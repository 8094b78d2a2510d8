-- What the sparse search for the strongest facts keeps.
use Rattle.std.specs.Prelude.{◌≡◌, ℕ, ◌+◌, ◌*◌, ◌<◌, ◌≤◌, ◌⊎◌, List, [], ◌∷◌, ◌++◌, length, sum_by, Contains, ⊤, Option, Some, None, true, false, ℤ}
use Rattle.std.specs.Prelude.{slice_index_or, slice_set}
use Rattle.cj_ir.specs.declared.language.Label.{Label}
use Rattle.cj_ir.specs.declared.language.Reg.{Reg}
use Rattle.cj_draft.specs.declared.facts.Fact.{Fact}
use Rattle.cj_draft.specs.declared.facts.Facts.{Facts}
use Rattle.cj_draft.specs.declared.instructions.VInstr.{VInstr}
use Rattle.cj_draft.specs.declared.code.Place.{Place}
use Rattle.cj_draft.specs.declared.code.Code.{Code}
use Rattle.cj_draft.specs.Arrives.{place_at}
use Rattle.cj_draft.specs.Edges.{successors}
use Rattle.cj_links.specs.UseTable.{reg_of}
use Rattle.cj_const.specs.Knowledge.{Knowledge, known}
use Rattle.cj_const.specs.Flow.{leaves, facts_at, IsWithin, IsConsistent}
use Rattle.cj_const.specs.Search.{AreRows, SaysLess, reached_at, agrees, rank}
use Rattle.cj_sparse.specs.declared.search.Work.{Work}
use Rattle.cj_sparse.specs.declared.search.Work.TheVariants.{Reached, Lost}

-- ---- what waits

abbrev pub label_of : Work → Label
label_of (Reached label) = label
label_of (Lost label reg) = label

-- at a label the same is known as before, but for registers whose facts were lost: these losses wait
abbrev pub SameOrLost : List Work → Label → Knowledge → Knowledge → Type 0
SameOrLost work label k k' = (r : ℕ) → (k' r ≡ k r) ⊎ (Contains work (Lost label (reg_of r)) × (k' r ≡ None))

-- Along the instruction's edge has gone all that is known at its label, but for losses that wait; or the label itself
-- waits, since it is newly reached.
abbrev pub EdgeRests : List (Option (List (Option ℤ))) → List Work → VInstr → Label → Label → Type 0
EdgeRests rows work instr label to =
    (k : Knowledge) → reached_at rows label ≡ Some k →
    Contains work (Reached label)
    ⊎ ((before : Knowledge) × SaysLess (reached_at rows to) (leaves before instr to) × SameOrLost work label before k)

-- one edge of a label rests
abbrev pub IsPassed : Code → List (Option (List (Option ℤ))) → List Work → Label → Label → Type 0
IsPassed code rows work label to = (place : Place) → place_at code label ≡ Some place → EdgeRests rows work place.instr label to

-- all edges of a label rest
abbrev pub ArePassed : Code → List (Option (List (Option ℤ))) → List Work → Label → Type 0
ArePassed code rows work label =
    (place : Place) (to : Label) → place_at code label ≡ Some place → Contains (successors place.instr) to → EdgeRests rows work place.instr label to

-- a lost register is not known at its label, which is reached
abbrev pub IsLostAt : List (Option (List (Option ℤ))) → Work → Type 0
IsLostAt rows (Reached label) = ⊤
IsLostAt rows (Lost label reg) = (k : Knowledge) × (reached_at rows label ≡ Some k) × (k reg.0 ≡ None)

-- the item's label is in the code, and its register is lost there
pub record IsItem (code : Code) (rows : List (Option (List (Option ℤ)))) (item : Work) : Type 0 where
  pub label : (label_of item).0 < length code.places
  pub lost : IsLostAt rows item

-- a search in which any edge may be open
pub record IsBegun (context : List Fact) (code : Code) (rows : List (Option (List (Option ℤ)))) (work : List Work) : Type 0 where
  pub found : AreRows context code rows (λ from to. ⊤)
  pub items : (item : Work) → Contains work item → IsItem code rows item

-- a search in which all edges rest
pub record IsSearch (context : List Fact) (code : Code) (rows : List (Option (List (Option ℤ)))) (work : List Work) : Type 0 where
  pub begun : IsBegun context code rows work
  pub edges : (label : Label) → ArePassed code rows work label

-- ---- how it goes on

-- what is known at a label now, if this was known before: less by losses that wait, or it is newly reached and waits
abbrev pub LowersAt : List Work → Label → Option Knowledge → Option Knowledge → Type 0
LowersAt work label None now = (now ≡ None) ⊎ Contains work (Reached label)
LowersAt work label (Some k) now = (k' : Knowledge) × (now ≡ Some k') × SameOrLost work label k k'

-- all that waited waits, and what changed at labels waits too
pub record Lowers (rows : List (Option (List (Option ℤ)))) (work : List Work) (rows' : List (Option (List (Option ℤ)))) (work' : List Work) : Type 0 where
  pub still : (item : Work) → Contains work item → Contains work' item
  pub labels : (label : Label) → LowersAt work' label (reached_at rows label) (reached_at rows' label)

-- each change of a label's row adds one item at most
unfoldable pub work_left : ℕ → List (Option (List (Option ℤ))) → List Work → ℕ
work_left n rows work = 2 * sum_by (rank n) rows + length work

-- from one state of a search to another
pub record GoesOn (context : List Fact) (code : Code) (rows : List (Option (List (Option ℤ)))) (work : List Work) (rows' : List (Option (List (Option ℤ))))
    (work' : List Work) : Type 0 where
  pub begun : IsBegun context code rows' work'
  pub lowers : Lowers rows work rows' work'
  pub left : work_left code.regs rows' work' ≤ work_left code.regs rows work

-- ---- what arrives

-- no consistent table says more at the label
abbrev pub IsAbove : List Fact → Code → Label → Knowledge → Type 0
IsAbove context code label k = (table : List Facts) → IsConsistent context code table → IsWithin (facts_at table label) (Some k)

unfoldable pub slot_in : Option (List (Option ℤ)) → ℕ → Option ℤ
slot_in None r = None
slot_in (Some row) r = known row r

-- what is known of a register at a label
unfoldable pub slot_at : List (Option (List (Option ℤ))) → Label → ℕ → Option ℤ
slot_at rows label r = slot_in (slice_index_or rows label.0 None) r

-- the row in which nothing is known of a register
unfoldable pub forgotten : ℕ → Option (List (Option ℤ)) → Option (List (Option ℤ))
forgotten r None = None
forgotten r (Some row) = Some (slice_set row r None)

-- This has arrived of a register at a label: where another value was known, the fact is lost, and that waits.
abbrev pub HasMet : List (Option (List (Option ℤ))) → List Work → Label → Reg → Option ℤ → List (Option (List (Option ℤ))) → List Work → Type 0
HasMet rows work label reg other rows' work' =
    ((agrees (slot_at rows label reg.0) other ≡ false)
    × (rows' ≡ slice_set rows label.0 (forgotten reg.0 (slice_index_or rows label.0 None)))
    × (work' ≡ work ++ Lost label reg ∷ []))
    ⊎ ((agrees (slot_at rows label reg.0) other ≡ true) × (rows' ≡ rows) × (work' ≡ work))

-- what is known at a reached label of its first n registers is told by a row
abbrev pub AreMet : List (Option (List (Option ℤ))) → Label → List (Option ℤ) → ℕ → Type 0
AreMet rows label arrival n =
    (k : Knowledge) × (reached_at rows label ≡ Some k) × ((r : ℕ) (v : ℤ) → r < n → k r ≡ Some v → known arrival r ≡ Some v)
