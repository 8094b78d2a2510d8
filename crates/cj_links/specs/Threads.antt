-- How the lists of edges are threaded through one array of nodes. A label's node comes first and last in its ring, and
-- between lie the nodes of its edges, which stand behind those of all labels.
use Rattle.std.specs.Prelude.{◌≡◌, ℕ, zero, suc, ◌+◌, ◌-◌, ◌^◌, ◌<◌, if◌then◌else◌, nat_lt, List, [], ◌∷◌, length, map, Option, Some, None, slice_set}
use Rattle.std.specs.Prelude.{slice_index_or}
use Rattle.std.specs.List.{range_with_len}
use Rattle.cj_ir.specs.declared.language.Label.{Label}
use Rattle.cj_links.specs.declared.edges.EdgeId.{EdgeId}
use Rattle.cj_links.specs.declared.edges.Node.{Node}
use Rattle.cj_links.specs.EdgeTable.{EdgeTable, edge_table, label_of, list_of, IsWoven}

abbrev pub node : ℕ → ℕ → Node
node before after = record { before = before; after = after }

abbrev pub after_of : List Node → ℕ → ℕ
after_of nodes at = (slice_index_or nodes at (node 0 0)).after

abbrev pub before_of : List Node → ℕ → ℕ
before_of nodes at = (slice_index_or nodes at (node 0 0)).before

abbrev pub with_after : List Node → ℕ → ℕ → List Node
with_after nodes at other = slice_set nodes at (node (before_of nodes at) other)

abbrev pub with_before : List Node → ℕ → ℕ → List Node
with_before nodes at other = slice_set nodes at (node other (after_of nodes at))

-- one node is followed by another
abbrev pub lead : List Node → ℕ → ℕ → List Node
lead nodes one other = with_before (with_after nodes one other) other one

-- from a node on, these follow each other up to the last one
abbrev pub Chain : List Node → ℕ → List ℕ → ℕ → Type 0
Chain nodes from [] last = (after_of nodes from ≡ last) × (before_of nodes last ≡ from)
Chain nodes from (next ∷ path) last =
    (after_of nodes from ≡ next) × (before_of nodes next ≡ from) × Chain nodes next path last

abbrev pub nodes_of : ℕ → List EdgeId → List ℕ
nodes_of labels list = map (λ edge. labels + edge.0) list

-- the edge whose node this is; a label's node is none
abbrev pub edge_at : ℕ → ℕ → Option EdgeId
edge_at labels at = if nat_lt at labels then None else Some (record { 0 = at - labels })

-- so many edges from a node on
abbrev pub walk : ℕ → List Node → ℕ → ℕ → List EdgeId
walk labels nodes zero at = []
walk labels nodes (suc n) at = record { 0 = at - labels } ∷ walk labels nodes n (after_of nodes at)

abbrev pub walks : ℕ → List Node → List ℕ → List (List EdgeId)
walks labels nodes counts =
    map (λ label. walk labels nodes (slice_index_or counts label 0) (after_of nodes label)) (range_with_len 0 labels)

-- what the nodes, the counts and the edges are seen as
abbrev pub table_of : List Node → List ℕ → List (Label × Label) → EdgeTable
table_of nodes counts edges = edge_table edges (walks (length counts) nodes counts)

-- the lists, of which there are so many, are threaded through the nodes, and counted
pub record IsThreaded (labels : ℕ) (nodes : List Node) (counts : List ℕ) (edges : List (Label × Label)) (lists : List (List EdgeId)) : Type 0 where
  pub lists_of : length lists ≡ labels
  pub counts_of : length counts ≡ labels
  pub nodes_for : length nodes ≡ labels + length edges
  pub few : length edges < 2 ^ 32
  pub counted : (n : ℕ) → n < labels → slice_index_or counts n 0 ≡ length (list_of (edge_table edges lists) (label_of n))
  pub chained : (n : ℕ) → n < labels → Chain nodes n (nodes_of labels (list_of (edge_table edges lists) (label_of n))) n
  pub woven : IsWoven (edge_table edges lists)
