-- Edges between labels, and for each label the list of the edges into it.
use Rattle.std.specs.Prelude.{◌≡◌, ◌≢◌, ℕ, suc, ◌<◌, cond, not, nat_eq, List, [], ◌∷◌, ◌++◌, length, map, filter, All, AllPairs, Contains, slice_set}
use Rattle.std.specs.Prelude.{slice_index_or}
use Rattle.std.specs.List.{range_with_len}
use Rattle.cj_ir.specs.declared.language.Label.{Label}
use Rattle.cj_links.specs.declared.edges.EdgeId.{EdgeId}

-- the edges as they were given, with their present ends, and for each label a list of edges
pub record EdgeTable : Type 0 where
  pub edges : List (Label × Label)
  pub lists : List (List EdgeId)

abbrev pub edge_table : List (Label × Label) → List (List EdgeId) → EdgeTable
edge_table edges lists = record { edges = edges; lists = lists }

abbrev pub label_of : ℕ → Label
label_of n = record { 0 = n }

abbrev pub edge_of : EdgeTable → EdgeId → Label × Label
edge_of t edge = slice_index_or t.edges edge.0 (label_of 0, label_of 0)

-- the label to which an edge leads
abbrev pub end_of : EdgeTable → EdgeId → Label
end_of t edge = (edge_of t edge).1

abbrev pub list_of : EdgeTable → Label → List EdgeId
list_of t label = slice_index_or t.lists label.0 []

-- an edge stands in the list of the label to which it leads
abbrev pub IsLinked : EdgeTable → EdgeId → Type 0
IsLinked t edge = Contains (list_of t (end_of t edge)) edge

abbrev pub with_list : EdgeTable → Label → List EdgeId → EdgeTable
with_list t label list = edge_table t.edges (slice_set t.lists label.0 list)

abbrev pub without : EdgeId → List EdgeId → List EdgeId
without edge list = filter (λ other. not (nat_eq other.0 edge.0)) list

-- an edge is taken out of its list
abbrev pub unlinked : EdgeTable → EdgeId → EdgeTable
unlinked t edge = with_list t (end_of t edge) (without edge (list_of t (end_of t edge)))

-- an edge is appended to the list of the label to which it leads
abbrev pub linked : EdgeTable → EdgeId → EdgeTable
linked t edge = with_list t (end_of t edge) (list_of t (end_of t edge) ++ edge ∷ [])

-- an edge leads to another label
abbrev pub led_to : EdgeTable → EdgeId → Label → EdgeTable
led_to t edge label = edge_table (slice_set t.edges edge.0 ((edge_of t edge).0, label)) t.lists

-- an edge is taken out of its list, leads to another label, and is appended to that label's list
abbrev pub moved : EdgeTable → EdgeId → Label → EdgeTable
moved t edge label = linked (led_to (unlinked t edge) edge label) edge

-- of edges that are numbered from n on, those that lead to a label
abbrev pub edges_into : Label → ℕ → List (Label × Label) → List EdgeId
edges_into label n [] = []
edges_into label n (edge ∷ edges) =
    cond (nat_eq edge.1.0 label.0) (record { 0 = n } ∷ edges_into label (suc n) edges) (edges_into label (suc n) edges)

-- for each label below a number, its edges in the order in which they were given
abbrev pub lists_into : ℕ → List (Label × Label) → List (List EdgeId)
lists_into labels edges = map (λ n. edges_into (label_of n) 0 edges) (range_with_len 0 labels)

abbrev pub given : ℕ → List (Label × Label) → EdgeTable
given labels edges = edge_table edges (lists_into labels edges)

-- an edge leads to a label below a number
abbrev pub IsInto : ℕ → Label × Label → Type 0
IsInto labels edge = edge.1.0 < labels

-- the edges lead to labels that have a list, and in the list of a label stand edges that lead to it, each once
pub record IsWoven (t : EdgeTable) : Type 0 where
  pub into : All (IsInto (length t.lists)) t.edges
  pub edges_in : (label : Label) → All (λ edge. edge.0 < length t.edges) (list_of t label)
  pub ends : (label : Label) → All (λ edge. end_of t edge ≡ label) (list_of t label)
  pub once : (label : Label) → AllPairs (λ one other. one ≢ other) (list_of t label)

-- three edges between three labels, of which two lead to the last one
abbrev pub three_edges : List (Label × Label)
three_edges = (label_of 0, label_of 1) ∷ (label_of 0, label_of 2) ∷ (label_of 1, label_of 2) ∷ []
