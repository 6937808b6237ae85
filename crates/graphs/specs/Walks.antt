-- Walks, cycles and connected graphs. A graph is given by two predicates: which numbers are its vertices, and
-- which edges it has. Nothing has to be finite, and nothing is assumed; edges may be walked both ways.
use Rattle.std.specs.Prelude.{◌≡◌, ℕ, ◌≤◌, ◌≢◌, ◌⊎◌, List, [], ◌∷◌, map, length}
use Rattle.graphs.specs.Lists.{Apart}

-- an edge has a name, by which two edges between the same vertices are told apart
pub record Edge : Type 0 where
  pub name : ℕ
  pub from : ℕ
  pub to : ℕ

abbrev pub name_of : Edge → ℕ
name_of e = e.name

-- one step of a walk: the edge that it goes over, and the vertex that it comes to
pub record Step : Type 0 where
  pub over : Edge
  pub at : ℕ

-- the name of the edge that a step crosses
abbrev pub crossed : Step → ℕ
crossed s = s.over.name

-- the vertex that a step reaches
abbrev pub reached : Step → ℕ
reached s = s.at

-- the edge leads from u to w, in one direction or the other
abbrev pub Ends : Edge → ℕ → ℕ → Type 0
Ends e u w = ((e.from ≡ u) × (e.to ≡ w)) ⊎ ((e.to ≡ u) × (e.from ≡ w))

-- the steps lead from u to v over edges that are P
pub data Walk (P : Edge → Type 0) : ℕ → List Step → ℕ → Type 0 where
  stop : {u v : ℕ} → u ≡ v → Walk P u [] v
  step : {u v : ℕ} {s : Step} {ss : List Step} → P s.over → Ends s.over u s.at → Walk P s.at ss v → Walk P u (s ∷ ss) v

-- some walk leads from u to v
pub record JoinedBy (P : Edge → Type 0) (u v : ℕ) : Type 0 where
  pub steps : List Step
  pub walk : Walk P u steps v

-- a cycle through u: a closed walk over at least two edges that repeats neither an edge nor a vertex
pub record CycleOver (P : Edge → Type 0) (u : ℕ) : Type 0 where
  pub steps : List Step
  pub closed : Walk P u steps u
  pub two : 2 ≤ length steps
  pub edges_apart : Apart (map crossed steps)
  pub vertices_apart : Apart (map reached steps)

-- free of cycles
abbrev pub AcyclicOver : (Edge → Type 0) → Type 0
AcyclicOver P = (u : ℕ) → CycleOver P u → ⊥

-- there is a vertex, and any two are joined by a walk
pub record ConnectedOver (V : ℕ → Type 0) (P : Edge → Type 0) : Type 0 where
  pub one : (v : ℕ) × V v
  pub all : (u v : ℕ) → V u → V v → JoinedBy P u v

-- two vertices that no walk joins
pub record GapOver (V : ℕ → Type 0) (P : Edge → Type 0) : Type 0 where
  pub one : ℕ
  pub other : ℕ
  pub one_in : V one
  pub other_in : V other
  pub no_walk : JoinedBy P one other → ⊥

-- no edge leads from a vertex to itself
abbrev pub LooplessOver : (Edge → Type 0) → Type 0
LooplessOver P = (e : Edge) → P e → e.from ≢ e.to
