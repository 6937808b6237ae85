-- The small graphs: a path is a tree, a triangle and a double edge have cycles, a lone vertex is apart from a triangle.
use Rattle.std.proofs.Common.{◌≡◌, [], ◌∷◌, refl, inl, inr, arith}
use Rattle.graphs.specs.Lists.In.{here, there}
use Rattle.graphs.specs.Walks.Walk.{stop, step}
use Rattle.graphs.specs.Graphs.{Graph, Cycle, Connected}
use Rattle.graphs.specs.Classes.{class_of}
use Rattle.graphs.specs.Samples.{edge, path, triangle, double, SmallGraphs}
use Rattle.graphs.proofs.Members.{not_in_nil, in_one}
use Rattle.graphs.proofs.Walks.{joined_eq, connected_by_hub}
use Rattle.graphs.proofs.Classes.{joined_one_class}
use Rattle.graphs.proofs.Trees.{tree_has_no_cycle_lem}
use Rattle.graphs.proofs.Tests.{apart_by_test, graph_by_test, connected_by_test}

path_is_graph : Graph (1 ∷ 2 ∷ 3 ∷ []) path
path_is_graph = graph_by_test (1 ∷ 2 ∷ 3 ∷ []) path refl

path_is_connected : Connected (1 ∷ 2 ∷ 3 ∷ []) path
unfolding class_of
path_is_connected = connected_by_test 1 (1 ∷ 2 ∷ 3 ∷ []) path (here refl) refl

triangle_is_cycle : Cycle triangle 1
triangle_is_cycle = record {
  steps = record { over = edge 11 1 2; at = 2 } ∷ record { over = edge 12 2 3; at = 3 } ∷ record { over = edge 13 3 1; at = 1 } ∷ [];
  closed = step (here refl) (inl (refl, refl)) (step (there (here refl)) (inl (refl, refl)) (step (there (there (here refl))) (inl (refl, refl)) (stop refl)));
  two = omega arith;
  edges_apart = apart_by_test (11 ∷ 12 ∷ 13 ∷ []) refl;
  vertices_apart = apart_by_test (2 ∷ 3 ∷ 1 ∷ []) refl;
}

-- out by one edge and back by the other
double_is_cycle : Cycle double 2
double_is_cycle = record {
  steps = record { over = edge 11 1 2; at = 1 } ∷ record { over = edge 12 1 2; at = 2 } ∷ [];
  closed = step (here refl) (inr (refl, refl)) (step (there (here refl)) (inl (refl, refl)) (stop refl));
  two = omega arith;
  edges_apart = apart_by_test (11 ∷ 12 ∷ []) refl;
  vertices_apart = apart_by_test (1 ∷ 2 ∷ []) refl;
}

labels_differ : class_of triangle 1 ≡ class_of triangle 4 → ⊥
unfolding class_of
labels_differ p = omega arith

pub small_graphs_lem : SmallGraphs
small_graphs_lem = record {
  nothing_not_connected = λ c. not_in_nil c.one.1;
  lone_connected = connected_by_hub 4 (here refl) (λ u i. joined_eq (in_one i));
  path_graph = path_is_graph;
  path_connected = path_is_connected;
  path_acyclic = tree_has_no_cycle_lem (1 ∷ 2 ∷ 3 ∷ []) path path_is_graph path_is_connected refl;
  triangle_cycle = triangle_is_cycle;
  double_cycle = double_is_cycle;
  lone_gap = record { one = 1; other = 4; one_in = here refl; other_in = there (there (there (here refl))); no_walk = λ j. labels_differ (joined_one_class triangle j) };
}
