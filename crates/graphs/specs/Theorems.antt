-- What is shown of finite graphs, each named by the contract of one public function.
-- The counting theorem carries the rest: classes and edges together are at least as many as the vertices.
use Rattle.std.specs.Prelude.{◌≡◌, ℕ, ◌+◌, ◌<◌, ◌≤◌, ◌↔◌, List, map, length}
use Rattle.graphs.specs.Lists.{In, Among, Apart}
use Rattle.graphs.specs.Walks.{Edge, name_of}
use Rattle.graphs.specs.Rounds.{Round}
use Rattle.graphs.specs.Graphs.{Graph, Joined, Cycle, Acyclic, Connected, Gap, Loopless}
use Rattle.graphs.specs.Classes.{class_of, classes, Head}

-- two vertices are joined by a walk exactly when they have one label
abbrev pub OneClassMeansJoined : Type 0
OneClassMeansJoined = (E : List Edge) (u v : ℕ) → Joined E u v ↔ (class_of E u ≡ class_of E v)

-- each class has one head, so that counting heads counts classes
abbrev pub EachClassHasOneHead : Type 0
EachClassHasOneHead = (V : List ℕ) (E : List Edge) → Graph V E → (v : ℕ) → In v V → Head V E v (class_of E v)

-- classes and edges are at least as many as vertices, and just as many exactly where there is no cycle and no loop
abbrev pub ClassesAndEdgesCoverTheVertices : Type 0
ClassesAndEdgesCoverTheVertices = (V : List ℕ) (E : List Edge) → Graph V E → (length V ≤ classes V E + length E) × ((length V ≡ classes V E + length E) ↔ (Acyclic E × Loopless E))

-- connected with one edge less than vertices: no cycle
abbrev pub TreeHasNoCycle : Type 0
TreeHasNoCycle = (V : List ℕ) (E : List Edge) → Graph V E → Connected V E → length E + 1 ≡ length V → Acyclic E

-- connected with no cycle: one edge less than vertices
abbrev pub TreeHasOneEdgeLess : Type 0
TreeHasOneEdgeLess = (V : List ℕ) (E : List Edge) → Graph V E → Loopless E → Connected V E → Acyclic E → length E + 1 ≡ length V

-- a vertex, and as many edges as vertices or more: a cycle
abbrev pub ManyEdgesMakeACycle : Type 0
ManyEdgesMakeACycle = (V : List ℕ) (E : List Edge) → Graph V E → Loopless E → (v : ℕ) → In v V → length V ≤ length E → (u : ℕ) × Cycle E u

-- more vertices than edges and one: two that no walk joins
abbrev pub FewEdgesLeaveAGap : Type 0
FewEdgesLeaveAGap = (V : List ℕ) (E : List Edge) → Graph V E → length E + 1 < length V → Gap V E

-- a cycle runs through u exactly when an edge leads from u to another vertex that the other edges join to u
abbrev pub CycleGoesRoundAnEdge : Type 0
CycleGoesRoundAnEdge = (E : List Edge) → Apart (map name_of E) → (u : ℕ) → Cycle E u ↔ Round (Among E) u

-- a cycle has no more steps than there are vertices, and no more than there are edges
abbrev pub CycleRepeatsNothing : Type 0
CycleRepeatsNothing = (V : List ℕ) (E : List Edge) → Graph V E → (u : ℕ) (c : Cycle E u) → (length c.steps ≤ length V) × (length c.steps ≤ length E)

-- an edge from a vertex to itself makes no cycle
abbrev pub LoopsMakeNoCycle : Type 0
LoopsMakeNoCycle = (E : List Edge) → ((e : Edge) → In e E → e.from ≡ e.to) → Acyclic E
