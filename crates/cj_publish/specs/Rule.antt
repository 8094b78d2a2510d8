-- The rule of the table: word 0 is the first unclaimed word, the word of a cell the offset of its newest region, 0 for none.
use Rattle.std.specs.Prelude.{◌≡◌, ◌≢◌, ℕ, ◌+◌, ◌<◌, ◌≤◌, ◌⊎◌, true, Some, List, length, slice_index}
use mathlib.Core.Option.{some}
use lib.ListN.{get_elem?}
use Rattle.atomic_table.specs.Table.{State}
use Rattle.cj_publish.specs.declared.view.Key.{Key}
use Rattle.cj_publish.specs.declared.view.Claim.{Claim}
use Rattle.cj_publish.specs.declared.view.Region.{Region}
use Rattle.cj_publish.specs.declared.view.View.{View}
use Rattle.cj_publish.specs.declared.view.Cell.{Cell}
use Rattle.cj_publish.specs.Words.{Has, Each, piece, Rises}
use Rattle.cj_publish.specs.Cells.{program_in, cells, number, IsCell, key_in}
use Rattle.cj_publish.specs.declared.view.Told.{Told}
use Rattle.cj_publish.specs.Spelled.{SpellsVersion}
use Rattle.cj_publish.specs.Seen.{IsAmong}

-- a slot of a function, an offset and a length
abbrev pub Place : Type 0
Place = Cell × ℕ × ℕ

-- the words spell a version for that slot of the function
abbrev pub IsVersion : Key → Cell → List ℕ → Type 0
IsVersion k c words = SpellsVersion (program_in k) c.function c.slot words

-- a published region stands at this place: behind the words of the cells, within the claimed words, with words that spell a version,
-- and no further on than the newest region of its cell
pub record IsRegion (k : Key) (ws : List ℕ) (g : Place) : Type 0 where
  pub cell : IsCell k g.0
  pub inside : cells k < g.1
  pub ends : g.1 + g.2 ≤ slice_index ws 0
  pub spells : IsVersion k g.0 (piece ws g.1 g.2)
  pub newest : g.1 ≤ slice_index ws (number k g.0 + 1)

-- the places [o, o + n) and [p, p + m) share no word
abbrev pub Apart : ℕ → ℕ → ℕ → ℕ → Type 0
Apart o n p m = (o + n ≤ p) ⊎ (p + m ≤ o)

-- the claimed words lie within those that are claimed, apart from each region, and what was written stands there
pub record FitsClaim (k : Key) (known : List Place) (ws : List ℕ) (c : Claim) : Type 0 where
  pub some : 0 < c.len
  pub inside : cells k < c.offset
  pub ends : c.offset + c.len ≤ slice_index ws 0
  pub room : length c.written ≤ c.len
  pub stands : piece ws c.offset (length c.written) ≡ c.written
  pub apart : Each (λ (g : Place). Apart c.offset c.len g.1 g.2) known

-- the region was published, and what was read of it stands there
pub record FitsRegion (known : List Place) (ws : List ℕ) (r : Region) : Type 0 where
  pub is_known : Has known (r.cell, r.offset, r.len)
  pub room : length r.read ≤ r.len
  pub stands : piece ws r.offset (length r.read) ≡ r.read

-- a lookup found nothing, or a region that the seat has seen
abbrev pub Grounded : List Region → Cell × ℕ → Type 0
Grounded rs x = (x.1 ≡ 0) ⊎ IsAmong rs x.0 x.1

-- lookups in order
abbrev pub FitsLooks : List Region → List (Cell × ℕ) → Type 0
FitsLooks rs xs = Rises xs × Each (Grounded rs) xs

-- what a seat knows is so
pub record FitsView (k : Key) (known : List Place) (ws : List ℕ) (v : View) : Type 0 where
  pub key : v.live ≡ true → v.key ≡ k
  pub next : v.next ≤ slice_index ws 0
  pub claim : (c : Claim) → v.claim ≡ Some c → FitsClaim k known ws c
  pub regions : Each (FitsRegion known ws) v.regions
  pub lookups : FitsLooks v.regions v.lookups
  pub joined : Each (FitsLooks v.regions) v.joined

abbrev pub FitsViews : Key → List Place → List ℕ → List View → Type 0
FitsViews k known ws views = (j : ℕ) (v : View) → get_elem? views j ≡ some v → FitsView k known ws v

-- no two seats have claimed a word
abbrev pub ClaimsApart : List View → Type 0
ClaimsApart views = (i j : ℕ) (v u : View) (c d : Claim) → i ≢ j → get_elem? views i ≡ some v → get_elem? views j ≡ some u → v.claim ≡ Some c
    → u.claim ≡ Some d → Apart c.offset c.len d.offset d.len

-- what holds while the seat is the only one that there ever was: only the words that it has claimed are claimed, it has seen each
-- published region, and its claim lies behind them all
pub record IsAlone (k : Key) (known : List Place) (ws : List ℕ) (seats : ℕ) (v : View) : Type 0 where
  pub one : seats ≡ 1
  pub front : slice_index ws 0 ≡ cells k + 1 + v.taken
  pub seen : Each (λ (g : Place). IsAmong v.regions g.0 g.1) known
  pub behind : (c : Claim) → v.claim ≡ Some c → Each (λ (g : Place). g.1 + g.2 ≤ c.offset) known

-- this holds of each view that is sole
abbrev pub AreAlone : Key → List Place → List ℕ → List View → Type 0
AreAlone k known ws views = (j : ℕ) (v : View) → get_elem? views j ≡ some v → v.sole ≡ true → IsAlone k known ws (length views) v

-- the rule: there is a list of all places that were ever published, with which the words and the views agree
pub record Ruled {S : Type 0} (k : Key) (s : State S View) : Type 0 where
  pub known : List Place
  pub sized : length s.words ≡ k.size
  pub front : cells k < slice_index s.words 0
  pub back : slice_index s.words 0 ≤ k.size
  pub regions : Each (IsRegion k s.words) known
  pub newest : (f : Cell) → IsCell k f → (slice_index s.words (number k f + 1) ≡ 0) ⊎ ((n : ℕ) × Has known (f, slice_index s.words (number k f + 1), n))
  pub views : FitsViews k known s.words s.views
  pub apart : ClaimsApart s.views
  pub alone : AreAlone k known s.words s.views

-- the same of what a table is told
abbrev pub RuledAs : {S : Type 0} → Told → State S View → Type 0
RuledAs t s = Ruled (key_in t) s
