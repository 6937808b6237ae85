-- What is proved of switchings, each named by the contract of a public function.
-- The first three tie the lists of Edges.antt to the links that stand and the occurrences that are kept.
use Rattle.std.specs.Prelude.{◌≡◌, ℕ, ◌+◌, ◌↔◌, List, length}
use Rattle.graphs.specs.Lists.{In}
use Rattle.graphs.specs.Walks.{Edge, LooplessOver}
use Rattle.graphs.specs.Graphs.{Graph}
use Rattle.links.specs.declared.link.Link.{Link}
use Rattle.links.specs.Links.{link_at, LinkStands, total, link_count}
use Rattle.links.specs.Facts.{Facts}
use Rattle.switchings.specs.Switchings.{Switching, Kept, Connected, Correct}
use Rattle.switchings.specs.Edges.{lines, standing, axioms_of, joins_of, edges_into, edges, KeptInto}

-- the points are listed: just the links that stand, and as many as there are links
abbrev pub PointsAreListed : Type 0
PointsAreListed = (ls : List Link) → ((n : ℕ) → In n (standing ls) ↔ LinkStands ls n) × (length (standing ls) ≡ link_count ls)

-- the edges are listed: just the kept occurrences, and so are those into some of the links
abbrev pub EdgesAreListed : Type 0
EdgesAreListed = (ls : List Link) → Facts ls → (σ : Switching) (e : Edge) → (In e (edges ls σ) ↔ Kept ls σ e) × ((ns : List ℕ) → In e (edges_into ls σ ns) ↔ KeptInto ls σ ns e)

-- the two lists are a graph: no point twice, each edge with a name of its own, and no edge from a link to itself
abbrev pub SwitchingsAreGraphs : Type 0
SwitchingsAreGraphs = (ls : List Link) → Facts ls → (σ : Switching) → Graph (standing ls) (edges ls σ) × LooplessOver (Kept ls σ)

-- every switching has as many edges: two for a tensor or a cut and one for a par, so that links, tensors and cuts are
-- together as many as edges and axioms
abbrev pub SwitchingsHaveTheSameCount : Type 0
SwitchingsHaveTheSameCount = (ls : List Link) (σ : Switching) → (length (edges ls σ) ≡ total (λ n. lines (link_at ls n)) (length ls)) × (length (standing ls) + joins_of ls (standing ls) ≡ length (edges ls σ) + axioms_of ls (standing ls))

-- a structure is correct exactly when every switching is connected and there is one axiom more than tensors and cuts
abbrev pub CorrectByCount : Type 0
CorrectByCount = (ls : List Link) → Facts ls → Correct ls ↔ (((σ : Switching) → Connected ls σ) × (axioms_of ls (standing ls) ≡ joins_of ls (standing ls) + 1))
