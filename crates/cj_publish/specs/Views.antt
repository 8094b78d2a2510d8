-- The views that seats begin with, and those that steps leave.
use Rattle.std.specs.Prelude.{ℕ, ◌+◌, max, true, false, Option, Some, None, List, [], ◌∷◌, ◌++◌}
use Rattle.cj_ir.specs.declared.language.Program.{Program}
use Rattle.cj_publish.specs.declared.view.Key.{Key}
use Rattle.cj_publish.specs.declared.view.Claim.{Claim}
use Rattle.cj_publish.specs.declared.view.Region.{Region}
use Rattle.cj_publish.specs.declared.view.View.{View}
use Rattle.cj_publish.specs.declared.view.Cell.{Cell}
use Rattle.cj_publish.specs.declared.view.Told.{Told}
use Rattle.cj_publish.specs.declared.publishing.Published.{Published}
use Rattle.cj_publish.specs.Cells.{key_in}

-- the first seat of a new table has seen nothing
abbrev pub fresh : Key → View
fresh k = record { live = true; sole = true; key = k; next = 0; claim = None; regions = []; lookups = []; taken = 0; outcomes = []; joined = []; splits = 0 }

abbrev pub fresh_as : Told → View
fresh_as t = fresh (key_in t)

-- the seat is one of several from now on, one of which was split off it
abbrev pub shared : View → View
shared v = record v { sole = false; splits = v.splits + 1 }

-- a new seat has seen what the old one has
abbrev pub given : View → View
given v = record v { sole = false; claim = None; lookups = []; taken = 0; outcomes = []; joined = []; splits = 0 }

abbrev pub no_program : Program
no_program = record { functions = [] }

-- what is left of a seat that was joined into another
abbrev pub spent_view : View
spent_view = record (fresh (record { program = no_program; slots = 0; size = 0 })) { live = false; sole = false }

-- what both have seen and done
abbrev pub joined_view : View → View → View
joined_view v w = record v {
  next = max v.next w.next;
  regions = v.regions ++ w.regions;
  taken = v.taken + w.taken;
  outcomes = v.outcomes ++ w.outcomes;
  joined = v.joined ++ w.lookups ∷ w.joined;
  splits = v.splits + w.splits;
}

abbrev pub with_next : View → ℕ → View
with_next v n = record v { next = n }

-- the n words from o on are claimed
abbrev pub claiming : View → ℕ → ℕ → View
claiming v o n = record v { next = o + n; claim = Some record { offset = o; len = n; written = [] }; taken = v.taken + n }

abbrev pub with_claim : View → Option Claim → View
with_claim v c = record v { claim = c }

-- what became of claims, each with the cell for which it was made
abbrev pub Outcomes : Type 0
Outcomes = List (Cell × Published)

-- the claim is gone, and that became of it
abbrev pub ended : View → Cell → Published → View
ended v f outcome = record v { claim = None; outcomes = v.outcomes ++ (f, outcome) ∷ [] }

abbrev pub with_regions : View → List Region → View
with_regions v rs = record v { regions = rs }

abbrev pub with_region : View → Region → View
with_region v r = with_regions v (r ∷ v.regions)

abbrev pub with_look : View → Cell × ℕ → View
with_look v x = record v { lookups = v.lookups ++ x ∷ [] }

-- a claim with these words written, and with one word more
abbrev pub filled : Claim → List ℕ → Claim
filled c words = record c { written = words }

abbrev pub appended : Claim → ℕ → Claim
appended c x = filled c (c.written ++ x ∷ [])
