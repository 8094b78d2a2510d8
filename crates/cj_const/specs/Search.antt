-- What the search for the strongest facts keeps.
use Rattle.std.specs.Prelude.{◌≡◌, ℕ, ◌+◌, ◌*◌, ◌<◌, ◌≤◌, ◌⊎◌, ◌&&◌, List, [], ◌∷◌, length, count_by, sum_by, All, Contains, ⊤, Option, Some, None, IfSome}
use Rattle.std.specs.Prelude.{Bool, true, false, not, ℤ, if◌then◌else◌, slice_index_or, slice_set}
use Rattle.std.specs.Option.{option_map}
use Rattle.std.specs.Ordering.{int_eq}
use Rattle.cj_ir.specs.declared.language.Label.{Label}
use Rattle.cj_draft.specs.declared.facts.Fact.{Fact}
use Rattle.cj_draft.specs.declared.facts.Facts.{Facts}
use Rattle.cj_draft.specs.declared.facts.Facts.TheVariants.{Unreached, Known}
use Rattle.cj_draft.specs.declared.instructions.VInstr.{VInstr}
use Rattle.cj_draft.specs.declared.instructions.VInstr.TheVariants.{Op, Move, Call, Load, Assume}
use Rattle.cj_draft.specs.declared.code.Place.{Place}
use Rattle.cj_draft.specs.declared.code.Code.{Code}
use Rattle.cj_draft.specs.WellNamed.{IsGuardWithin}
use Rattle.cj_draft.specs.Arrives.{place_at}
use Rattle.cj_draft.specs.Edges.{successors}
use Rattle.cj_links.specs.Waiting.{Waiting, IsOrderly}
use Rattle.cj_const.specs.Knowledge.{Knowledge, told_by, known}
use Rattle.cj_const.specs.Flow.{leaves, facts_at, IsWithin, IsConsistent}
use Rattle.cj_const.specs.Folding.{facts_below}

-- ---- rows

-- the registers that the instruction writes are below the count
abbrev pub WritesWithin : ℕ → VInstr → Type 0
WritesWithin n (Op dest expr next) = dest.0 < n
WritesWithin n (Move pairs next) = All (λ pair. pair.dest.0 < n) pairs
WritesWithin n (Call dest f args next) = dest.0 < n
WritesWithin n (Load dest address next) = dest.0 < n
WritesWithin n (Assume guards back target next) = All (IsGuardWithin n) guards
WritesWithin n instr = ⊤

-- what a row knows, and whether anything arrives at all
abbrev pub arrived : Bool → List (Option ℤ) → Option Knowledge
arrived true row = Some (known row)
arrived false row = None

-- the first tells no more than the second
abbrev pub TellsNoMore : Knowledge → Knowledge → Type 0
TellsNoMore k k' = (r : ℕ) (v : ℤ) → k r ≡ Some v → k' r ≡ Some v

-- the same where one of them may be what is known of a label that is not reached
abbrev pub SaysLess : Option Knowledge → Option Knowledge → Type 0
SaysLess k None = ⊤
SaysLess None (Some k') = ⊥
SaysLess (Some k) (Some k') = TellsNoMore k k'

unfoldable pub agrees : Option ℤ → Option ℤ → Bool
agrees None other = true
agrees (Some v) None = false
agrees (Some v) (Some w) = int_eq v w

-- whether all that a row tells is told by another
unfoldable pub is_within : List (Option ℤ) → List (Option ℤ) → Bool
is_within [] others = true
is_within (slot ∷ row) [] = true
is_within (slot ∷ row) (other ∷ others) = agrees slot other && is_within row others

unfoldable pub kept_slot : Option ℤ → Option ℤ → Option ℤ
kept_slot slot other = if agrees slot other then slot else None

-- what two rows both tell
unfoldable pub met : List (Option ℤ) → List (Option ℤ) → List (Option ℤ)
met [] others = []
met (slot ∷ row) [] = []
met (slot ∷ row) (other ∷ others) = kept_slot slot other ∷ met row others

-- ---- tables of rows

-- the facts of a label of which this is known
unfoldable pub facts_in : ℕ → Option (List (Option ℤ)) → Facts
facts_in n None = Unreached
facts_in n (Some row) = Known (facts_below (known row) n)

-- what is known where a run comes to a label; None where none is known to come
abbrev pub reached_at : List (Option (List (Option ℤ))) → Label → Option Knowledge
reached_at rows label = option_map known (slice_index_or rows label.0 None)

-- the row has a slot for each of n registers
abbrev pub HasWidth : ℕ → Option (List (Option ℤ)) → Type 0
HasWidth n row = IfSome row (λ slots. length slots ≡ n)

-- along the instruction's edge from one label to another the row there tells no more than what leaves
abbrev pub EdgeHolds : List (Option (List (Option ℤ))) → VInstr → Label → Label → Type 0
EdgeHolds rows instr label to =
    (k : Knowledge) → reached_at rows label ≡ Some k → SaysLess (reached_at rows to) (leaves k instr to)

-- The rows of a search: the entry's tells no more than the context; no consistent table says more at any label; and all
-- edges hold but those that are open.
pub record AreRows (context : List Fact) (code : Code) (rows : List (Option (List (Option ℤ)))) (Open : Label → Label → Type 0) : Type 0 where
  pub count : length rows ≡ length code.places
  pub widths : All (HasWidth code.regs) rows
  pub entry : SaysLess (reached_at rows code.entry) (Some (told_by context))
  pub above : (table : List Facts) → IsConsistent context code table → (label : Label) →
      IsWithin (facts_at table label) (reached_at rows label)
  pub edges : (label to : Label) (place : Place) → place_at code label ≡ Some place → Contains (successors place.instr) to →
      Open label to ⊎ EdgeHolds rows place.instr label to

-- the labels of a code may wait
pub record AreWaiting (code : Code) (w : Waiting) : Type 0 where
  pub labels : w.labels ≡ length code.places
  pub orderly : IsOrderly w

-- a search in which all edges may be open
pub record IsBegun (context : List Fact) (code : Code) (rows : List (Option (List (Option ℤ)))) (w : Waiting) : Type 0 where
  pub found : AreRows context code rows (λ from to. ⊤)
  pub waiting : AreWaiting code w

-- a search in which the edges from waiting labels are open, and those of one label to these labels
pub record IsFollowing (context : List Fact) (code : Code) (rows : List (Option (List (Option ℤ)))) (w : Waiting) (label : Label)
    (left : List Label) : Type 0 where
  pub found : AreRows context code rows (λ from to. Contains w.list from ⊎ ((from ≡ label) × Contains left to))
  pub waiting : AreWaiting code w

-- a search in which the edges from waiting labels alone are open
pub record IsSearch (context : List Fact) (code : Code) (rows : List (Option (List (Option ℤ)))) (w : Waiting) : Type 0 where
  pub found : AreRows context code rows (λ from to. Contains w.list from)
  pub waiting : AreWaiting code w

-- ---- what is left to do

unfoldable pub is_known : Option ℤ → Bool
is_known None = false
is_known (Some v) = true

-- how often the row of a label may still change
unfoldable pub rank : ℕ → Option (List (Option ℤ)) → ℕ
rank n None = n + 1
rank n (Some row) = count_by is_known row

-- each change of a row lets one label wait at most
unfoldable pub work_left : ℕ → List (Option (List (Option ℤ))) → Waiting → ℕ
work_left n rows w = 2 * sum_by (rank n) rows + length w.list

-- ---- one label

-- one label waits more, if it did not
pub record LetsWait (old new : Waiting) (label : Label) : Type 0 where
  pub labels : new.labels ≡ old.labels
  pub waits : Contains new.list label
  pub still : (other : Label) → Contains old.list other → Contains new.list other
  pub few : length new.list ≤ length old.list + 1
  pub orderly : IsOrderly new

-- whether a row that arrives changes what is known
unfoldable pub is_news : Option (List (Option ℤ)) → List (Option ℤ) → Bool
is_news None arrival = true
is_news (Some row) arrival = not (is_within row arrival)

-- what is known with it
unfoldable pub met_with : Option (List (Option ℤ)) → List (Option ℤ) → List (Option ℤ)
met_with None arrival = arrival
met_with (Some row) arrival = met row arrival

-- A row has arrived at a label: where it is news the label's row is what both tell, and the label waits.
abbrev pub HasArrived : List (Option (List (Option ℤ))) → Waiting → Label → List (Option ℤ) → List (Option (List (Option ℤ))) → Waiting → Type 0
HasArrived rows w to arrival rows' w' =
    let row = slice_index_or rows to.0 None in
    ((is_news row arrival ≡ true) × (rows' ≡ slice_set rows to.0 (Some (met_with row arrival))) × LetsWait w w' to)
    ⊎ ((is_news row arrival ≡ false) × (rows' ≡ rows) × (w' ≡ w))

-- the instruction at a label goes on to another
abbrev pub IsEdge : Code → Label → Label → Type 0
IsEdge code label to = (place : Place) → place_at code label ≡ Some place → Contains (successors place.instr) to
