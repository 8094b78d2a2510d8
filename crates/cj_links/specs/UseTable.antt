-- Uses of registers at labels, and for each register the list of its uses. A use is kept as the edge from its label to
-- the number of its register.
use Rattle.std.specs.Prelude.{ℕ, suc, cond, not, nat_eq, List, [], ◌∷◌, map, filter, Contains, slice_set, slice_index_or}
use Rattle.std.specs.List.{range_with_len}
use Rattle.cj_ir.specs.declared.language.Label.{Label}
use Rattle.cj_ir.specs.declared.language.Reg.{Reg}
use Rattle.cj_links.specs.declared.edges.EdgeId.{EdgeId}
use Rattle.cj_links.specs.declared.uses.UseId.{UseId}
use Rattle.cj_links.specs.EdgeTable.{EdgeTable, label_of}

-- the uses as they were given, and for each register a list of uses
pub record UseTable : Type 0 where
  pub uses : List (Reg × Label)
  pub lists : List (List UseId)

abbrev pub use_table : List (Reg × Label) → List (List UseId) → UseTable
use_table uses lists = record { uses = uses; lists = lists }

abbrev pub reg_of : ℕ → Reg
reg_of n = record { 0 = n }

abbrev pub use_at : UseTable → UseId → Reg × Label
use_at t x = slice_index_or t.uses x.0 (reg_of 0, label_of 0)

-- the register that is used
abbrev pub used_by : UseTable → UseId → Reg
used_by t x = (use_at t x).0

abbrev pub uses_of : UseTable → Reg → List UseId
uses_of t reg = slice_index_or t.lists reg.0 []

-- a use stands in the list of its register
abbrev pub IsListed : UseTable → UseId → Type 0
IsListed t x = Contains (uses_of t (used_by t x)) x

abbrev pub without_use : UseId → List UseId → List UseId
without_use x list = filter (λ other. not (nat_eq other.0 x.0)) list

-- a use is taken out of the list of its register
abbrev pub unlisted : UseTable → UseId → UseTable
unlisted t x = use_table t.uses (slice_set t.lists (used_by t x).0 (without_use x (uses_of t (used_by t x))))

-- of uses that are numbered from n on, those of a register
abbrev pub uses_from : ℕ → List (Reg × Label) → Reg → List UseId
uses_from n [] reg = []
uses_from n (x ∷ uses) reg = cond (nat_eq x.0.0 reg.0) (record { 0 = n } ∷ uses_from (suc n) uses reg) (uses_from (suc n) uses reg)

-- for each register below a number, its uses in the order in which they were given
abbrev pub given_uses : ℕ → List (Reg × Label) → UseTable
given_uses registers uses = use_table uses (map (λ r. uses_from 0 uses (reg_of r)) (range_with_len 0 registers))

-- ---- uses as edges

abbrev pub use_of : EdgeId → UseId
use_of edge = record { 0 = edge.0 }

abbrev pub edge_of_use : UseId → EdgeId
edge_of_use x = record { 0 = x.0 }

-- the use that an edge stands for, and the edge that stands for a use
abbrev pub use_along : Label × Label → Reg × Label
use_along edge = (reg_of edge.1.0, edge.0)

abbrev pub edge_along : Reg × Label → Label × Label
edge_along x = (x.1, label_of x.0.0)

abbrev pub seen_uses : EdgeTable → UseTable
seen_uses t = use_table (map use_along t.edges) (map (map use_of) t.lists)

-- a register and a label at which it is used, and a register that is used at two
abbrev pub three_uses : List (Reg × Label)
three_uses = (reg_of 0, label_of 0) ∷ (reg_of 1, label_of 0) ∷ (reg_of 0, label_of 2) ∷ []
