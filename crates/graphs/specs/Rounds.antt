-- Ways round an edge: what makes a cycle, seen from one of its edges. Over any predicate on edges; assumes nothing.
use Rattle.std.specs.Prelude.{ℕ, ◌≢◌}
use Rattle.graphs.specs.Walks.{Edge, Ends, JoinedBy}

-- e is P, and its name is another than n
pub record Except (P : Edge → Type 0) (n : ℕ) (e : Edge) : Type 0 where
  pub is : P e
  pub other : e.name ≢ n

-- an edge from u to another vertex, to which the other edges lead from u as well
pub record Round (P : Edge → Type 0) (u : ℕ) : Type 0 where
  pub edge : Edge
  pub is : P edge
  pub far : ℕ
  pub ends : Ends edge u far
  pub apart : u ≢ far
  pub around : JoinedBy (Except P edge.name) u far
