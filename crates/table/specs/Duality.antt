-- How the duality test reads formulas: the head of an occurrence's formula, and what two heads say of duality.
-- Only the test's inner functions speak of these; its promise is `Dual`.
use Rattle.std.specs.Prelude.{◌≡◌, ℕ, ◌+◌, max, cond, List, Some, None, Option, ◌==◌}
use Rattle.links.specs.declared.link.Link.{Link}
use Rattle.links.specs.declared.link.Link.TheVariants as link
use Rattle.links.specs.Links.{link_at, Stands}
use Rattle.links.specs.Formulas as formula
use Rattle.links.specs.Formulas.{Formula}
use Rattle.table.specs.declared.duals.Head.{Head}
use Rattle.table.specs.declared.duals.Head.TheVariants.{Atom, CoAtom, Tensor, Par}
use Rattle.table.specs.declared.duals.Meeting.{Meeting}
use Rattle.table.specs.declared.duals.Meeting.TheVariants.{Clash, Match, Parts}

-- the head of the formula of o, if o stands
abbrev pub HeadIs : List Link → ℕ → Option Head → Type 0
HeadIs ls o None = Stands ls o → ⊥
HeadIs ls o (Some (Atom a)) = (n : ℕ) × (q : ℕ) × (link_at ls n ≡ link.Axiom o q a)
HeadIs ls o (Some (CoAtom a)) = (n : ℕ) × (p : ℕ) × (link_at ls n ≡ link.Axiom p o a)
HeadIs ls o (Some (Tensor l r)) = (n : ℕ) × (link_at ls n ≡ link.Tensor l r o)
HeadIs ls o (Some (Par l r)) = (n : ℕ) × (link_at ls n ≡ link.Par l r o)

-- an atom meets the same atom's dual, a tensor a par
abbrev pub meeting_of : Head → Head → Meeting
meeting_of (Atom x) (Atom y) = Clash
meeting_of (Atom x) (CoAtom y) = cond (x == y) Match Clash
meeting_of (Atom x) (Tensor m s) = Clash
meeting_of (Atom x) (Par m s) = Clash
meeting_of (CoAtom x) (Atom y) = cond (x == y) Match Clash
meeting_of (CoAtom x) (CoAtom y) = Clash
meeting_of (CoAtom x) (Tensor m s) = Clash
meeting_of (CoAtom x) (Par m s) = Clash
meeting_of (Tensor l r) (Atom y) = Clash
meeting_of (Tensor l r) (CoAtom y) = Clash
meeting_of (Tensor l r) (Tensor m s) = Clash
meeting_of (Tensor l r) (Par m s) = Parts l m r s
meeting_of (Par l r) (Atom y) = Clash
meeting_of (Par l r) (CoAtom y) = Clash
meeting_of (Par l r) (Tensor m s) = Parts l m r s
meeting_of (Par l r) (Par m s) = Clash

-- how deep a formula nests
abbrev pub height : Formula → ℕ
height (formula.atom x) = 0
height (formula.co_atom x) = 0
height (formula.tensor F G) = max (height F) (height G) + 1
height (formula.par F G) = max (height F) (height G) + 1
