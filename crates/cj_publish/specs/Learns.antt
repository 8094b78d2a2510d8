-- Nothing that a seat has seen is lost.
use Rattle.std.specs.Prelude.{◌≡◌, ℕ, ◌≤◌, List}
use Rattle.std.proofs.Common.{refl, ◌∙◌, le_refl, le_trans}
use Rattle.std.proofs.Math.Nat.{le-max_left}
use Rattle.cj_publish.specs.declared.view.Cell.{Cell}
use Rattle.cj_publish.specs.declared.view.View.{View}
use Rattle.cj_publish.specs.Words.{Has, Each, has_left}
use Rattle.cj_publish.specs.Seen.{SeenAt, ReadWhole}
use Rattle.cj_publish.specs.Views.{joined_view}

pub record Learns (v w : View) : Type 0 where
  pub live : w.live ≡ v.live
  pub key : w.key ≡ v.key
  pub next : v.next ≤ w.next
  pub seen : (c : Cell) (offset : ℕ) → SeenAt v c offset → SeenAt w c offset
  pub whole : (c : Cell) (offset : ℕ) (words : List ℕ) → ReadWhole v c offset words → ReadWhole w c offset words

-- by a view with the same regions, and perhaps others
pub learns_more : (v w : View) → w.live ≡ v.live → w.key ≡ v.key → v.next ≤ w.next → Each (Has w.regions) v.regions → Learns v w
learns_more v w live key next more = record {
  live = live;
  key = key;
  next = next;
  seen = λ c o x. (x.0, more x.0 x.1, x.2, x.3);
  whole = λ c o ws x. (x.0, more x.0 x.1, x.2, x.3, x.4, x.5);
}

pub learns_nothing : (v : View) → Learns v v
learns_nothing v = learns_more v v refl refl (le_refl v.next) (λ x h. h)

pub learns_twice : (u v w : View) → Learns u v → Learns v w → Learns u w
learns_twice u v w g h = record {
  live = h.live ∙ g.live;
  key = h.key ∙ g.key;
  next = le_trans g.next h.next;
  seen = λ c o x. h.seen c o (g.seen c o x);
  whole = λ c o ws x. h.whole c o ws (g.whole c o ws x);
}

-- by a seat into which another is joined
pub joins_learns : (v w : View) → Learns v (joined_view v w)
joins_learns v w = learns_more v (joined_view v w) refl refl (le-max_left v.next w.next) (λ x h. has_left v.regions w.regions x h)
