-- The edges of a code, as they stand in lists.
use Rattle.std.specs.Prelude.{◌≡◌, ℕ, suc, ◌<◌, List, [], ◌∷◌, ◌++◌, length, map, count_by, All}
use Rattle.cj_ir.specs.declared.language.Label.{Label}
use Rattle.cj_draft.specs.declared.instructions.VInstr.{VInstr}
use Rattle.cj_draft.specs.declared.code.Place.{Place}
use Rattle.cj_draft.specs.declared.code.Code.{Code}
use Rattle.cj_draft.specs.Edges.{successors}
use Rattle.cj_links.specs.EdgeTable.{EdgeTable, label_of, list_of}
use Rattle.cj_delay.specs.DelayedAssume.{is_label, all_nexts}

-- the edges from a label that holds this instruction
unfoldable pub edges_from : Label → VInstr → List (Label × Label)
edges_from from instr = map (λ next. (from, next)) (successors instr)

-- the edges from these places, of which the first has that number
unfoldable pub edges_of : ℕ → List Place → List (Label × Label)
edges_of n [] = []
edges_of n (place ∷ places) = edges_from (label_of n) place.instr ++ edges_of (suc n) places

-- all edges of the places go to labels below the number of places
pub record AreNextsWithin (places : List Place) : Type 0 where
  pub within : All (λ next. next.0 < length places) (all_nexts places)

-- the lists have the edges between the labels of a code
pub record AreCounted (code : Code) (lists : EdgeTable) : Type 0 where
  pub labels : length lists.lists ≡ length code.places
  pub count : (label : Label) → label.0 < length code.places → length (list_of lists label) ≡ count_by (is_label label) (all_nexts code.places)
