-- Switchings, their graphs, and correctness.
-- The points of the graph are the standing links. Each occurrence that is a premise joins the link that concludes
-- it to the link that uses it, unless a par has not picked it.
use Rattle.std.specs.Prelude.{◌≡◌, ℕ, ◌⊎◌, List}
use Rattle.graphs.specs.Walks.{Edge, JoinedBy, CycleOver, AcyclicOver, ConnectedOver}
use Rattle.links.specs.declared.link.Link.{Link}
use Rattle.links.specs.declared.link.Link.TheVariants.{Empty, Axiom, Tensor, Par, Cut}
use Rattle.links.specs.Links.{link_at, Concludes, LinkStands}

pub data Side : Type 0 where
  left : Side
  right : Side

abbrev pub pick : Side → ℕ → ℕ → ℕ
pick left l r = l
pick right l r = r

-- a side for every link number, of which those of pars matter
abbrev pub Switching : Type 0
Switching = ℕ → Side

-- o is a premise of the link, and kept where a par picks that side
abbrev pub Keeps : Side → Link → ℕ → Type 0
Keeps side Empty o = ⊥
Keeps side (Axiom p q a) o = ⊥
Keeps side (Tensor l r c) o = (l ≡ o) ⊎ (r ≡ o)
Keeps side (Par l r c) o = pick side l r ≡ o
Keeps side (Cut l r) o = (l ≡ o) ⊎ (r ≡ o)

-- the edge is a kept occurrence, from the link that concludes it to the link that uses it
pub record Kept (ls : List Link) (σ : Switching) (e : Edge) : Type 0 where
  pub ends : Concludes (link_at ls e.from) e.name
  pub keeps : Keeps (σ e.to) (link_at ls e.to) e.name

-- there is a link, and any two are joined by a walk
abbrev pub Connected : List Link → Switching → Type 0
Connected ls σ = ConnectedOver (LinkStands ls) (Kept ls σ)

-- the link n is on a cycle: a closed walk over at least two kept occurrences that repeats neither an occurrence
-- nor a link
abbrev pub OnCycle : List Link → Switching → ℕ → Type 0
OnCycle ls σ n = CycleOver (Kept ls σ) n

-- the links m and n stand, and no walk joins them
pub record NoWalk (ls : List Link) (σ : Switching) (m n : ℕ) : Type 0 where
  pub one_stands : LinkStands ls m
  pub other_stands : LinkStands ls n
  pub no_walk : JoinedBy (Kept ls σ) m n → ⊥

-- every switching is connected and free of cycles
pub record Correct (ls : List Link) : Type 0 where
  pub connected : (σ : Switching) → Connected ls σ
  pub acyclic : (σ : Switching) → AcyclicOver (Kept ls σ)
