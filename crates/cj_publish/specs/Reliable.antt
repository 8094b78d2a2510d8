-- What holds of every seat's view between two steps, whatever the other seats do.
use Rattle.std.specs.Prelude.{◌≡◌, ◌+◌, ◌≤◌, true, length}
use Rattle.cj_publish.specs.declared.view.Key.{Key}
use Rattle.cj_publish.specs.declared.view.Region.{Region}
use Rattle.cj_publish.specs.declared.view.View.{View}
use Rattle.cj_publish.specs.Words.{Has, Each}
use Rattle.cj_publish.specs.Cells.{cells}
use Rattle.cj_publish.specs.Rule.{FitsLooks, IsVersion}

-- no more words are read of a region than it has, and those of one that is read whole spell a sound version of its cell
abbrev pub IsSpelled : Key → Region → Type 0
IsSpelled k x = (length x.read ≤ x.len) × (length x.read ≡ x.len → IsVersion k x.cell x.read)

-- two readings of one region agree, and in each list of lookups the offsets of one cell never fall, and each is 0 or a region seen
pub record IsCoherent (v : View) : Type 0 where
  pub agree : (x y : Region) → Has v.regions x → Has v.regions y → x.offset ≡ y.offset → (x.len ≡ y.len)
      × (length x.read ≡ x.len → length y.read ≡ y.len → x.read ≡ y.read)
  pub lookups : FitsLooks v.regions v.lookups
  pub joined : Each (FitsLooks v.regions) v.joined

-- what is read whole spells a version, what is known coheres, and for the one seat that there ever was only the words that it has
-- claimed itself are claimed
pub record IsReliable (v : View) : Type 0 where
  pub spelled : Each (IsSpelled v.key) v.regions
  pub sound : IsCoherent v
  pub starts : v.sole ≡ true → v.next ≤ cells v.key + 1 + v.taken
