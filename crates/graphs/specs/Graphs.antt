-- Finite graphs: a list of vertices and a list of edges, and the words for walks over such a list.
-- Each word is the one for predicates, at "is an entry of the list". Assumes nothing.
use Rattle.std.specs.Prelude.{ℕ, List, map}
use Rattle.graphs.specs.Lists.{In, Among, Apart}
use Rattle.graphs.specs.Walks.{Edge, name_of, JoinedBy, CycleOver, AcyclicOver, ConnectedOver, GapOver, LooplessOver}

-- each vertex is listed once, no two edges share a name, and the ends of each edge are vertices
pub record Graph (V : List ℕ) (E : List Edge) : Type 0 where
  pub apart : Apart V
  pub named : Apart (map name_of E)
  pub from_in : (e : Edge) → In e E → In e.from V
  pub to_in : (e : Edge) → In e E → In e.to V

abbrev pub Joined : List Edge → ℕ → ℕ → Type 0
Joined E u v = JoinedBy (Among E) u v

abbrev pub Cycle : List Edge → ℕ → Type 0
Cycle E u = CycleOver (Among E) u

abbrev pub Acyclic : List Edge → Type 0
Acyclic E = AcyclicOver (Among E)

abbrev pub Connected : List ℕ → List Edge → Type 0
Connected V E = ConnectedOver (Among V) (Among E)

abbrev pub Gap : List ℕ → List Edge → Type 0
Gap V E = GapOver (Among V) (Among E)

abbrev pub Loopless : List Edge → Type 0
Loopless E = LooplessOver (Among E)
