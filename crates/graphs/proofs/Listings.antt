-- Graphs given by predicates whose vertices and edges can be listed: the theorems on trees, many edges and few, for
-- walks over the predicate itself.
use Rattle.std.proofs.Common.{◌≡◌, ℕ, ◌+◌, ◌<◌, ◌≤◌, List, length}
use Rattle.graphs.specs.Lists.{In}
use Rattle.graphs.specs.Walks.{Edge, CycleOver, AcyclicOver, ConnectedOver, GapOver, LooplessOver}
use Rattle.graphs.specs.Graphs.{Graph, Connected}
use Rattle.graphs.proofs.Walks.{joined_map, cycle_map, acyclic_map, connected_map}
use Rattle.graphs.proofs.Cycles.{NamesTell, apart_names_tell}
use Rattle.graphs.proofs.Trees.{tree_has_no_cycle_lem, tree_has_one_edge_less_lem, many_edges_make_a_cycle_lem, few_edges_leave_a_gap_lem}

-- the lists hold just the vertices that are W and the edges that are P
pub record Listing (W : ℕ → Type 0) (P : Edge → Type 0) (V : List ℕ) (E : List Edge) : Type 0 where
  pub graph : Graph V E
  pub vertex_in : (v : ℕ) → W v → In v V
  pub in_vertex : (v : ℕ) → In v V → W v
  pub edge_in : (e : Edge) → P e → In e E
  pub in_edge : (e : Edge) → In e E → P e

module _ {W : ℕ → Type 0} {P : Edge → Type 0} {V : List ℕ} {E : List Edge} (l : Listing W P V E) where
  pub listing_names_tell : NamesTell P
  listing_names_tell d e p q = apart_names_tell l.graph.named d e (l.edge_in d p) (l.edge_in e q)

  pub listing_connected : ConnectedOver W P → Connected V E
  listing_connected c = connected_map l.vertex_in l.in_vertex l.edge_in c

  pub tree_has_no_cycle_over : ConnectedOver W P → length E + 1 ≡ length V → AcyclicOver P
  tree_has_no_cycle_over c n = acyclic_map l.edge_in (tree_has_no_cycle_lem V E l.graph (listing_connected c) n)

  pub tree_has_one_edge_less_over : LooplessOver P → ConnectedOver W P → AcyclicOver P → length E + 1 ≡ length V
  tree_has_one_edge_less_over h c a = tree_has_one_edge_less_lem V E l.graph (λ e i. h e (l.in_edge e i)) (listing_connected c) (acyclic_map l.in_edge a)

  pub many_edges_make_a_cycle_over : LooplessOver P → (v : ℕ) → W v → length V ≤ length E → (u : ℕ) × CycleOver P u
  many_edges_make_a_cycle_over h v i n =
      let c = many_edges_make_a_cycle_lem V E l.graph (λ e j. h e (l.in_edge e j)) v (l.vertex_in v i) n in
      (c.0, cycle_map l.in_edge c.1)

  pub few_edges_leave_a_gap_over : length E + 1 < length V → GapOver W P
  few_edges_leave_a_gap_over n =
      let g = few_edges_leave_a_gap_lem V E l.graph n in
      record {
        one = g.one;
        other = g.other;
        one_in = l.in_vertex g.one g.one_in;
        other_in = l.in_vertex g.other g.other_in;
        no_walk = λ j. g.no_walk (joined_map l.edge_in j);
      }
