-- What each call does to a seat.
use Rattle.std.specs.Prelude.{◌≡◌, ℕ, ◌+◌, ◌<◌, ◌≤◌, true, Some, None, List, [], ◌∷◌, ◌++◌, length}
use mathlib.Core.List.{IsPrefix}
use Rattle.cj_publish.specs.declared.view.Claim.{Claim}
use Rattle.cj_publish.specs.declared.view.Region.{Region}
use Rattle.cj_publish.specs.declared.view.View.{View}
use Rattle.cj_publish.specs.declared.view.Cell.{Cell}
use Rattle.cj_publish.specs.declared.publishing.Claim as answer
use Rattle.cj_publish.specs.declared.publishing.Claim.TheVariants.{Claimed, Full}
use Rattle.cj_publish.specs.declared.publishing.Published.{Published}
use Rattle.cj_publish.specs.declared.publishing.Published.TheVariants as how
use Rattle.cj_publish.specs.Words.{Has, Each}
use Rattle.cj_publish.specs.Rule.{IsVersion}
pub use Rattle.cj_publish.specs.Seen.{SeenAt, ReadWhole, SeesNoMore, SeesOneMore}
use Rattle.cj_publish.specs.Views.{with_next, claiming, with_claim, filled}
use Rattle.cj_publish.specs.Plays.{region}

-- nothing is lost, and only regions may come
pub record Gains (v w : View) : Type 0 where
  pub live : w.live ≡ v.live
  pub sole : w.sole ≡ v.sole
  pub key : w.key ≡ v.key
  pub next : w.next ≡ v.next
  pub lookups : w.lookups ≡ v.lookups
  pub taken : w.taken ≡ v.taken
  pub joined : w.joined ≡ v.joined
  pub splits : w.splits ≡ v.splits
  pub regions : Each (Has w.regions) v.regions
  pub within : Each (λ (r : Region). r.offset < v.key.size) v.regions → Each (λ (r : Region). r.offset < w.key.size) w.regions

-- the claim's words are behind all that was seen of the first unclaimed word, and within the table; or the first unclaimed word, which
-- the seat has seen now, leaves no room for them
abbrev pub Claims : View → ℕ → answer.Claim → View → Type 0
Claims v len (Claimed o) w = (w ≡ claiming v o len) × (v.next ≤ o) × (o + len ≤ v.key.size)
Claims v len (Full next need) w = (w ≡ with_next v next) × (v.next ≤ next) × (need ≡ len) × (v.key.size < next + need)

-- a claim of that many words, of which none is written
abbrev pub IsEmptyClaim : View → ℕ → Type 0
IsEmptyClaim v n = (c : Claim) × (v.claim ≡ Some c) × (c.written ≡ []) × (c.len ≡ n)

-- these are the claim's words, and nothing else has changed
abbrev pub Fills : View → List ℕ → View → Type 0
Fills v words w = (c : Claim) → v.claim ≡ Some c → w ≡ with_claim v (Some (filled c words))

-- the claim, if there is one, stands at that offset
abbrev pub IsOffset : View → ℕ → Type 0
IsOffset v o = (c : Claim) → v.claim ≡ Some c → o ≡ c.offset

-- the claim is written whole, with words that spell a sound version of f
abbrev pub IsReady : View → Cell → Type 0
IsReady v f = (c : Claim) × (v.claim ≡ Some c) × (length c.written ≡ c.len) × IsVersion v.key f c.written

-- The claim is gone, and the seat keeps what became of it: it is a region that the seat has seen, and a sole seat has seen nothing
-- else that is new; or a region of the cell at a greater offset was found, which no sole seat finds.
abbrev pub Publishes : View → Cell → Published → View → Type 0
Publishes v f (how.Published o) w = (c : Claim) × (v.claim ≡ Some c) × (o ≡ c.offset) × Gains v w × (w.claim ≡ None)
    × Has w.regions (region f c.offset c.len c.written) × (w.outcomes ≡ v.outcomes ++ (f, how.Published o) ∷ []) × (v.sole ≡ true → SeesOneMore v f o w)
Publishes v f (how.Older mine found) w = (c : Claim) × (v.claim ≡ Some c) × (mine ≡ c.offset) × (mine < found) × Gains v w × (w.claim ≡ None)
    × SeenAt w f found × (w.outcomes ≡ v.outcomes ++ (f, how.Older mine found) ∷ []) × ¬ (v.sole ≡ true)

-- each region that was seen is seen still, with no fewer words read, and no other one
pub record Grows (v w : View) : Type 0 where
  pub live : w.live ≡ v.live
  pub sole : w.sole ≡ v.sole
  pub key : w.key ≡ v.key
  pub next : w.next ≡ v.next
  pub claim : w.claim ≡ v.claim
  pub lookups : w.lookups ≡ v.lookups
  pub taken : w.taken ≡ v.taken
  pub outcomes : w.outcomes ≡ v.outcomes
  pub joined : w.joined ≡ v.joined
  pub splits : w.splits ≡ v.splits
  pub regions : Each (λ (x : Region). (y : Region) × Has w.regions y × (y.cell ≡ x.cell) × (y.offset ≡ x.offset) × (y.len ≡ x.len)
      × IsPrefix x.read y.read) v.regions
  pub no_more : SeesNoMore v w
