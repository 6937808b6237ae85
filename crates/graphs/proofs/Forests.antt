-- Forests grown edge by edge: where each edge of a list joined two classes when it was added, there is no cycle and no
-- loop; and the other way round, where no two edges share a name.
use Rattle.std.proofs.Common.{ℕ, ◌≤◌, ◌⊎◌, List, [], ◌∷◌, map, length, sym, refl, ap, inl, inr, arith}
use Rattle.graphs.specs.Lists.In.{here, there}
use Rattle.graphs.specs.Lists.{In, Among, Apart}
use Rattle.graphs.specs.Walks.{Edge, name_of, Step, crossed, Ends, Walk, JoinedBy}
use Rattle.graphs.specs.Rounds.{Except}
use Rattle.graphs.specs.Walks.Walk.{stop, step}
use Rattle.graphs.specs.Graphs.{Joined, Cycle, Acyclic, Loopless}
use Rattle.graphs.proofs.Members.{not_in_nil, in_map}
use Rattle.graphs.proofs.Walks.{joined_eq, joined_trans, joined_sym, joined_edge, joined_map, acyclic_map}
use Rattle.graphs.proofs.Cycles.{closing, apart_names_tell}

-- the ends of each edge are not joined by the edges after it: the list grew from its end
abbrev pub Grown : List Edge → Type 0
Grown [] = Unit {0}
Grown (e ∷ E) = (Joined E e.from e.to → ⊥) × Grown E

-- a walk that crosses e once, with edges of E before and after
record Crossing (e : Edge) (E : List Edge) (u v : ℕ) : Type 0 where
  near : ℕ
  far : ℕ
  before : Joined E u near
  across : Ends e near far
  after : Joined E far v

walk_without_first : {e : Edge} {E : List Edge} {u v : ℕ} {ss : List Step} → Walk (Among (e ∷ E)) u ss v → (In e.name (map crossed ss) → ⊥) → Walk (Among E) u ss v
walk_without_first (stop p) n = stop p
walk_without_first (step (here p) h t) n = absurd (n (here (ap name_of (sym p))))
walk_without_first (step (there i) h t) n = step i h (walk_without_first t (λ j. n (there j)))

-- a walk that repeats no edge does without e, or crosses it once
without_or_crossing : {e : Edge} {E : List Edge} {u v : ℕ} {ss : List Step} → Walk (Among (e ∷ E)) u ss v → Apart (map crossed ss) → Walk (Among E) u ss v ⊎ Crossing e E u v
without_or_crossing (stop p) a = inl (stop p)
without_or_crossing {u} (step {s = s} {ss = ss} (here p) h t) a = inr (record {
  near = u;
  far = s.at;
  before = joined_eq refl;
  across = rw p at h;
  after = record { steps = ss; walk = walk_without_first t (λ i. a.0 (rw (ap name_of p) i)) };
})
without_or_crossing (step {s = s} (there i) h t) a =
    elim (without_or_crossing t a.1) [
      | inl k ↦ inl (step i h k)
      | inr k ↦ inr (record {
        near = k.near;
        far = k.far;
        before = joined_trans (joined_edge s.over i h) k.before;
        across = k.across;
        after = k.after;
      })
    ]

-- who comes back from the far end of an edge to the near one without it joins its ends
ends_joined : {P : Edge → Type 0} (e : Edge) {u w : ℕ} → Ends e u w → JoinedBy P w u → JoinedBy P e.from e.to
ends_joined e (inl (p, q)) j = joined_trans (joined_eq p) (joined_trans (joined_sym j) (joined_eq (sym q)))
ends_joined e (inr (p, q)) j = joined_trans (joined_eq q) (joined_trans j (joined_eq (sym p)))

no_steps : {u v : ℕ} {ss : List Step} → Walk (Among []) u ss v → 2 ≤ length ss → ⊥
no_steps (stop p) l = omega arith
no_steps (step p h w) l = not_in_nil p

pub grown_acyclic : (E : List Edge) → Grown E → Acyclic E
grown_acyclic [] g u c = no_steps c.closed c.two
grown_acyclic (e ∷ E) g u c =
    elim (without_or_crossing c.closed c.edges_apart) [
      | inl w ↦ grown_acyclic E g.1 u (record { steps = c.steps; closed = w; two = c.two; edges_apart = c.edges_apart; vertices_apart = c.vertices_apart })
      | inr k ↦ g.0 (ends_joined e k.across (joined_trans k.after k.before))
    ]

pub grown_loopless : (E : List Edge) → Grown E → Loopless E
grown_loopless [] g e i p = not_in_nil i
grown_loopless (d ∷ E) g e (here q) p = g.0 (joined_eq (rw q at p))
grown_loopless (d ∷ E) g e (there i) p = grown_loopless E g.1 e i p

-- the edges after the first are not the first
later_except_first : (e : Edge) (E : List Edge) → Apart (map name_of (e ∷ E)) → (d : Edge) → In d E → Except (Among (e ∷ E)) e.name d
later_except_first e E a d i = record { is = there i; other = λ p. a.0 (rw (sym p) (in_map name_of i)) }

-- an edge added between joined ends closes a cycle
pub first_edge_closes : (e : Edge) (E : List Edge) → Apart (map name_of (e ∷ E)) → Loopless (e ∷ E) → Joined E e.from e.to → Cycle (e ∷ E) e.from
first_edge_closes e E a l j = closing (apart_names_tell a) e (here refl) (l e (here refl)) (joined_map (later_except_first e E a) j)

pub forest_grown : (E : List Edge) → Apart (map name_of E) → Acyclic E → Loopless E → Grown E
forest_grown [] a f l = tt
forest_grown (e ∷ E) a f l = (λ j. f e.from (first_edge_closes e E a l j), forest_grown E a.1 (acyclic_map (λ d i. there i) f) (λ d i. l d (there i)))
