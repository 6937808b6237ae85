-- Small graphs that are written out, to try the definitions on: none of them is empty, and none always holds.
use Rattle.std.specs.Prelude.{ℕ, List, [], ◌∷◌}
use Rattle.graphs.specs.Walks.{Edge}
use Rattle.graphs.specs.Graphs.{Graph, Cycle, Acyclic, Connected, Gap}

abbrev pub edge : ℕ → ℕ → ℕ → Edge
edge n u v = record { name = n; from = u; to = v }

-- from 1 over 2 to 3
abbrev pub path : List Edge
path = edge 11 1 2 ∷ edge 12 2 3 ∷ []

-- the same and back to 1
abbrev pub triangle : List Edge
triangle = edge 11 1 2 ∷ edge 12 2 3 ∷ edge 13 3 1 ∷ []

-- two edges between 1 and 2
abbrev pub double : List Edge
double = edge 11 1 2 ∷ edge 12 1 2 ∷ []

-- what holds of them; `lone` is a vertex that no edge touches
pub record SmallGraphs : Type 0 where
  pub nothing_not_connected : Connected [] [] → ⊥
  pub lone_connected : Connected (4 ∷ []) []
  pub path_graph : Graph (1 ∷ 2 ∷ 3 ∷ []) path
  pub path_connected : Connected (1 ∷ 2 ∷ 3 ∷ []) path
  pub path_acyclic : Acyclic path
  pub triangle_cycle : Cycle triangle 1
  pub double_cycle : Cycle double 2
  pub lone_gap : Gap (1 ∷ 2 ∷ 3 ∷ 4 ∷ []) triangle
