-- What a seat has seen of the regions.
use Rattle.std.specs.Prelude.{◌≡◌, ◌⊎◌, ℕ, ◌≤◌, List, length}
use Rattle.cj_publish.specs.declared.view.Cell.{Cell}
use Rattle.cj_publish.specs.declared.view.Region.{Region}
use Rattle.cj_publish.specs.declared.view.View.{View}
use Rattle.cj_publish.specs.Words.{Has}

-- one of these regions is the cell's at that offset
abbrev pub IsAmong : List Region → Cell → ℕ → Type 0
IsAmong regions f o = (r : Region) × Has regions r × (r.cell ≡ f) × (r.offset ≡ o)

-- a region of the cell at this offset was seen
abbrev pub SeenAt : View → Cell → ℕ → Type 0
SeenAt v f o = IsAmong v.regions f o

-- whatever w has seen, v has seen
abbrev pub SeesNoMore : View → View → Type 0
SeesNoMore v w = (f : Cell) (o : ℕ) → SeenAt w f o → SeenAt v f o

-- whatever w has seen, v has seen, but for this one
abbrev pub SeesOneMore : View → Cell → ℕ → View → Type 0
SeesOneMore v f o w = (g : Cell) (p : ℕ) → SeenAt w g p → SeenAt v g p ⊎ ((g ≡ f) × (p ≡ o))

-- the region of the cell at that offset was read whole, and has these words
abbrev pub ReadWhole : View → Cell → ℕ → List ℕ → Type 0
ReadWhole v f o ws = (x : Region) × Has v.regions x × (x.cell ≡ f) × (x.offset ≡ o) × (x.len ≡ length ws) × (x.read ≡ ws)

-- the offset is at least each one that was seen for the cell
abbrev pub NotOlder : View → Cell → ℕ → Type 0
NotOlder v f r = (x : Region) → Has v.regions x → x.cell ≡ f → x.offset ≤ r
