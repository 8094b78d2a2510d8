-- What each step tells of the view before it and the view after it.
use Rattle.std.specs.Prelude.{◌≡◌, ◌≢◌, ℕ, ◌+◌, ◌-◌, ◌<◌, ◌≤◌, ◌⊎◌, true, Some, None, List, [], ◌∷◌, ◌++◌, length, slice_index, map, if◌then◌else◌, ◌==◌, ◌&&◌, nat_lt}
use Rattle.atomic_table.specs.Table.{Me, Step}
use Rattle.cj_publish.specs.declared.view.Key.{Key}
use Rattle.cj_publish.specs.declared.view.Claim.{Claim}
use Rattle.cj_publish.specs.declared.view.Region.{Region}
use Rattle.cj_publish.specs.declared.view.View.{View}
use Rattle.cj_publish.specs.declared.view.Cell.{Cell}
pub use Rattle.cj_publish.specs.Views.{joined_view, with_claim, with_look}
use Rattle.cj_publish.specs.declared.publishing.Published.TheVariants as how
pub use Rattle.cj_publish.specs.Seen.{NotOlder}
pub use Rattle.cj_publish.specs.Reliable.{IsReliable}
use Rattle.cj_publish.specs.Views.{with_next, claiming, ended, with_regions, with_region, appended}
use Rattle.cj_publish.specs.Seen.{SeenAt}
use Rattle.cj_publish.specs.Words.{Has}
use Rattle.cj_publish.specs.Cells.{cells, number, IsCell}

-- a region of f at this offset, of which nothing is read
abbrev pub region : Cell → ℕ → ℕ → List ℕ → Region
region f o n ws = record { cell = f; offset = o; len = n; read = ws }

-- the greatest next is seen
abbrev pub fronted : {S : Type 0} → Step S → Me S View → ℕ → Me S View → Type 0
fronted st m r m' = (m'.0 ≡ with_next m.0 r) × (m'.1 ≡ m.1) × (m.0.next ≤ r) × (cells m.0.key < r) × (r ≤ m.0.key.size) × IsReliable m'.0

-- a claim, or a greater next is seen
abbrev pub claimed : {S : Type 0} → Step S → Me S View → ℕ → Me S View → Type 0
claimed st m r m' =
    (m'.1 ≡ m.1) × (r ≡ st.first → m'.0 ≡ claiming m.0 st.first (st.second - st.first))
    × (r ≢ st.first → (m'.0 ≡ with_next m.0 r) × (m.0.next < r) × (r ≤ m.0.key.size)) × IsReliable m'.0

-- f's word was found at r: where it is not 0, a region of f is seen
abbrev pub Sees : View → Cell → ℕ → View → Type 0
Sees v f r w = ((r ≡ 0) × (w ≡ v)) ⊎ ((n : ℕ) × (0 < r) × (r < v.key.size) × (w ≡ with_region v (region f r n [])))

-- a sole seat finds nothing, or what it has seen already
abbrev pub FindsSeen : View → Cell → ℕ → Type 0
FindsSeen v f r = v.sole ≡ true → ¬ (r ≡ 0) → SeenAt v f r

-- what publishing finds: nothing yet above the claim's offset, or a greater offset, which takes the claim away, and which a sole seat
-- never finds
abbrev pub Finds : View → ℕ → Cell → ℕ → View → Type 0
Finds v mine f r w = (r < mine → Sees v f r w)
    × (mine ≤ r → (mine < r) × (r < v.key.size) × ((n : ℕ) × (w ≡ ended (with_region v (region f r n [])) f (how.Older mine r))))
    × (v.sole ≡ true → r < mine) × FindsSeen v f r

-- the step was made on the word of this slot
pub record IsAt (k : Key) (at : ℕ) (f : Cell) : Type 0 where
  pub cell : IsCell k f
  pub word : at ≡ number k f + 1

-- the word of a cell is seen by a seat that is about to publish
abbrev pub neared : {S : Type 0} → Step S → Me S View → ℕ → Me S View → Type 0
neared st m r m' = (m'.1 ≡ m.1) × ((c : Claim) (f : Cell) → m.0.claim ≡ Some c → IsAt m.0.key st.word f → Finds m.0 c.offset f r m'.0) × IsReliable m'.0

-- the claim is a region now, or another value was found
abbrev pub published : {S : Type 0} → Step S → Me S View → ℕ → Me S View → Type 0
published st m r m' =
    (m'.1 ≡ m.1)
    × ((c : Claim) (f : Cell) → m.0.claim ≡ Some c → IsAt m.0.key st.word f →
    (r ≡ st.first → m'.0 ≡ ended (with_region m.0 (region f c.offset c.len c.written)) f (how.Published c.offset))
    × (r ≢ st.first → (st.first < r) × Finds m.0 c.offset f r m'.0)) × IsReliable m'.0

-- the next word of the claim is written
abbrev pub wrote : {S : Type 0} → Step S → Me S View → ℕ → Me S View → Type 0
wrote st m r m' = (m'.1 ≡ m.1) × ((c : Claim) → m.0.claim ≡ Some c → m'.0 ≡ with_claim m.0 (Some (appended c st.first))) × IsReliable m'.0

-- the word of a cell is looked up, at an offset that is at least each one that was seen, and seen already by a sole seat
abbrev pub looked : {S : Type 0} → Step S → Me S View → ℕ → Me S View → Type 0
looked st m r m' = (m'.1 ≡ m.1) × ((f : Cell) → IsAt m.0.key st.word f → NotOlder m.0 f r
    × ((u : View) × Sees m.0 f r u × (m'.0 ≡ with_look u (f, r)))) × IsReliable m'.0
    × ((f : Cell) → IsAt m.0.key st.word f → FindsSeen m.0 f r)

-- each region whose next word to be read stands at this place takes it in
abbrev pub take_in : ℕ → ℕ → Region → Region
take_in at r x = if (at == x.offset + length x.read) && nat_lt (length x.read) x.len then region x.cell x.offset x.len (x.read ++ r ∷ []) else x

-- what the word is for each region that it lies in: the length, where the region begins, and what was read of it before
abbrev pub Fetches : ℕ → List Region → ℕ → ℕ → Type 0
Fetches size rs at r = (x : Region) → Has rs x → (at ≡ x.offset → (r ≡ x.len) × (2 ≤ r) × (x.offset + x.len ≤ size))
    × (x.offset ≤ at → at < x.offset + length x.read → slice_index x.read (at - x.offset) ≡ r)

-- the word is read
abbrev pub fetched : {S : Type 0} → Step S → Me S View → ℕ → Me S View → Type 0
fetched st m r m' = (m'.1 ≡ m.1) × (m'.0 ≡ with_regions m.0 (map (take_in st.word r) m.0.regions)) × Fetches m.0.key.size m.0.regions st.word r
    × IsReliable m'.0

-- nothing changes
abbrev pub confirmed : {S : Type 0} → Step S → Me S View → ℕ → Me S View → Type 0
confirmed st m r m' = (m' ≡ m) × IsReliable m.0
