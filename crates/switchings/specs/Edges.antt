-- The graph of a switching as two finite lists, for counting and for code that goes over the slots.
-- These lists are devices and nobody has to believe them: proofs/Listed.antt ties each to the words of Switchings.antt,
-- `standing` to the links that stand and `edges` to the kept occurrences. Slots are taken from the last to the first.
use Rattle.std.specs.Prelude.{ℕ, zero, suc, Bool, true, false, cond, List, [], ◌∷◌, ◌++◌, map, length}
use Rattle.graphs.specs.Lists.{In, count}
use Rattle.graphs.specs.Selections.{has, select}
use Rattle.graphs.specs.Walks.{Edge}
use Rattle.links.specs.declared.link.Link.{Link}
use Rattle.links.specs.declared.link.Link.TheVariants.{Empty, Axiom, Tensor, Par, Cut}
use Rattle.links.specs.Links.{link_at}
use Rattle.switchings.specs.Switchings.{Side, pick, Switching, Kept}

-- what a link uses, what it concludes, and what it keeps where a par picks the side
abbrev pub premises : Link → List ℕ
premises Empty = []
premises (Axiom p q a) = []
premises (Tensor l r c) = l ∷ r ∷ []
premises (Par l r c) = l ∷ r ∷ []
premises (Cut l r) = l ∷ r ∷ []

abbrev pub conclusions : Link → List ℕ
conclusions Empty = []
conclusions (Axiom p q a) = p ∷ q ∷ []
conclusions (Tensor l r c) = c ∷ []
conclusions (Par l r c) = c ∷ []
conclusions (Cut l r) = []

abbrev pub kept : Side → Link → List ℕ
kept side Empty = []
kept side (Axiom p q a) = []
kept side (Tensor l r c) = l ∷ r ∷ []
kept side (Par l r c) = pick side l r ∷ []
kept side (Cut l r) = l ∷ r ∷ []

-- how many premises a link keeps, on either side
abbrev pub lines : Link → ℕ
lines Empty = 0
lines (Axiom p q a) = 0
lines (Tensor l r c) = 2
lines (Par l r c) = 1
lines (Cut l r) = 2

-- tests of the kind: any link, an axiom
abbrev pub is_link : Link → Bool
is_link Empty = false
is_link (Axiom p q a) = true
is_link (Tensor l r c) = true
is_link (Par l r c) = true
is_link (Cut l r) = true

abbrev pub is_axiom_lem : Link → Bool
is_axiom_lem Empty = false
is_axiom_lem (Axiom p q a) = true
is_axiom_lem (Tensor l r c) = false
is_axiom_lem (Par l r c) = false
is_axiom_lem (Cut l r) = false

-- a tensor or a cut: what joins two sequents
abbrev pub is_join : Link → Bool
is_join Empty = false
is_join (Axiom p q a) = false
is_join (Tensor l r c) = true
is_join (Par l r c) = false
is_join (Cut l r) = true

-- the numbers below n
abbrev pub below : ℕ → List ℕ
below zero = []
below (suc n) = n ∷ below n

-- the numbers of the links that stand, below n and all of them
unfoldable pub standing_below : List Link → ℕ → List ℕ
standing_below ls n = select (λ k. is_link (link_at ls k)) (below n)

abbrev pub standing : List Link → List ℕ
standing ls = standing_below ls (length ls)

-- how many of the links ns are axioms, and how many are tensors or cuts
abbrev pub axioms_of : List Link → List ℕ → ℕ
axioms_of ls ns = count (λ n. is_axiom_lem (link_at ls n)) ns

abbrev pub joins_of : List Link → List ℕ → ℕ
joins_of ls ns = count (λ n. is_join (link_at ls n)) ns

-- the link that concludes o, 0 where none does
unfoldable pub maker_among : List Link → List ℕ → ℕ → ℕ
maker_among ls [] o = 0
maker_among ls (n ∷ ns) o = cond (has o (conclusions (link_at ls n))) n (maker_among ls ns o)

abbrev pub maker : List Link → ℕ → ℕ
maker ls o = maker_among ls (standing ls) o

-- the occurrence o joins the link that concludes it to the link n that uses it
abbrev pub edge : List Link → ℕ → ℕ → Edge
edge ls n o = record { name = o; from = maker ls o; to = n }

-- the edges into the links ns, and into all
unfoldable pub edges_into : List Link → Switching → List ℕ → List Edge
edges_into ls σ [] = []
edges_into ls σ (n ∷ ns) = map (edge ls n) (kept (σ n) (link_at ls n)) ++ edges_into ls σ ns

abbrev pub edges : List Link → Switching → List Edge
edges ls σ = edges_into ls σ (standing ls)

-- the edge is a kept occurrence, used by one of the links ns
pub record KeptInto (ls : List Link) (σ : Switching) (ns : List ℕ) (e : Edge) : Type 0 where
  pub kept : Kept ls σ e
  pub into : In e.to ns
