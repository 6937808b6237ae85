-- What a turn of unification comes to, and what all its turns do.
use Rattle.std.specs.Prelude.{◌≡◌, ℕ, ◌+◌, Bool, true, false, ◌≢◌, List, Ok, Err, Result}
use Rattle.links.specs.declared.link.Link.{Link}
use Rattle.links.specs.declared.link.Link.TheVariants.{Par}
use Rattle.links.specs.Links.{link_at, Uses, LinkStands}
use Rattle.switchings.specs.Switchings.{Switching, OnCycle}
use Rattle.switchings.specs.Edges.{is_join}
use Rattle.unify.specs.declared.marking.Marking.{Marking}
use Rattle.unify.specs.declared.marking.Tangled.{Tangled}
use Rattle.unify.specs.declared.unify.Unification.{Unification}
use Rattle.unify.specs.Markings.{token_of, carried, Means}

-- link n can neither pass nor tangle
pub record Quiet (ls : List Link) (m : Marking) (n : ℕ) : Type 0 where
  pub no_par : (l r c : ℕ) → link_at ls n ≡ Par l r c → carried ls m l ≢ 0 → carried ls m l ≢ carried ls m r
  pub no_join : (o q : ℕ) → is_join (link_at ls n) ≡ true → Uses (link_at ls n) o → Uses (link_at ls n) q → o ≢ q → carried ls m o ≢ 0 → carried ls m q ≢ 0 → ⊥

-- no link that has not passed can do anything
abbrev pub AllQuiet : List Link → Marking → Type 0
AllQuiet ls m = (n : ℕ) → LinkStands ls n → token_of m n ≡ 0 → Quiet ls m n

-- every switching has a cycle
abbrev pub CyclicAlways : List Link → Type 0
CyclicAlways ls = (σ : Switching) → (u : ℕ) × OnCycle ls σ u

-- a link passed; or none did, and the fact of what is quiet holds; or a tangle
abbrev pub Turned : List Link → Marking → Type 0 → Result Bool Tangled → Marking → Type 0
Turned ls m quiet (Ok true) after = Means ls after × (after.passes ≡ m.passes + 1)
Turned ls m quiet (Ok false) after = (after ≡ m) × quiet
Turned ls m quiet (Err _) after = CyclicAlways ls

-- the marks of a sound state, or a tangle
abbrev pub Drained : List Link → Result Unit Tangled → Marking → Type 0
Drained ls (Ok _) m = Means ls m
Drained ls (Err _) m = CyclicAlways ls

-- in which nothing can pass
abbrev pub Ended : List Link → Result Unit Tangled → Marking → Type 0
Ended ls (Ok _) m = Means ls m × AllQuiet ls m
Ended ls (Err _) m = CyclicAlways ls

-- tangled, and so every switching has a cycle; or the marks of a sound state in which nothing can pass
abbrev pub Unified : List Link → Unification → Type 0
Unified ls u = Ended ls u.ended u.marking
