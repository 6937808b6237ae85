-- Walks: end to end, turned round, over other edges, along a map of the vertices, and shortened until no vertex
-- repeats. All of it over any predicate on edges. Assumes nothing.
use Rattle.std.proofs.Common.{◌≡◌, ℕ, ◌≤◌, List, [], ◌∷◌, ◌++◌, map, length, sym, refl, ap, ◌∙◌, subst, inl, inr, arith}
use Rattle.graphs.specs.Lists.In.{here, there}
use Rattle.graphs.specs.Lists.{In, Apart}
use Rattle.graphs.specs.Walks.{Edge, Step, crossed, reached, Ends, Walk, JoinedBy, CycleOver, AcyclicOver, ConnectedOver, GapOver}
use Rattle.graphs.specs.Rounds.{Except}
use Rattle.graphs.specs.Walks.Walk.{stop, step}
use Rattle.graphs.proofs.Members.{not_in_nil, in_or_not}

pub ends_sym : (e : Edge) {u w : ℕ} → Ends e u w → Ends e w u
ends_sym e (inl (p, q)) = inr (q, p)
ends_sym e (inr (p, q)) = inl (q, p)

-- walks and what they join

pub walk_append : {P : Edge → Type 0} {u v w : ℕ} {ss ts : List Step} → Walk P u ss v → Walk P v ts w → Walk P u (ss ++ ts) w
walk_append (stop p) k = rw p k
walk_append (step p h t) k = step p h (walk_append t k)

pub joined_eq : {P : Edge → Type 0} {u v : ℕ} → u ≡ v → JoinedBy P u v
joined_eq p = record { steps = []; walk = stop p }

pub joined_trans : {P : Edge → Type 0} {u v w : ℕ} → JoinedBy P u v → JoinedBy P v w → JoinedBy P u w
joined_trans h k = record { steps = h.steps ++ k.steps; walk = walk_append h.walk k.walk }

pub joined_edge : {P : Edge → Type 0} (e : Edge) {u w : ℕ} → P e → Ends e u w → JoinedBy P u w
joined_edge e {w = w} p h = record { steps = record { over = e; at = w } ∷ []; walk = step p h (stop refl) }

-- the walk turned round
pub walk_back : {P : Edge → Type 0} {u v : ℕ} {ss : List Step} → Walk P u ss v → JoinedBy P v u
walk_back (stop p) = joined_eq (sym p)
walk_back (step {s = s} p h t) = joined_trans (walk_back t) (joined_edge s.over p (ends_sym s.over h))

pub joined_sym : {P : Edge → Type 0} {u v : ℕ} → JoinedBy P u v → JoinedBy P v u
joined_sym h = walk_back h.walk

-- over other edges

pub walk_map : {P Q : Edge → Type 0} {u v : ℕ} {ss : List Step} → ((e : Edge) → P e → Q e) → Walk P u ss v → Walk Q u ss v
walk_map f (stop p) = stop p
walk_map f (step {s = s} p h t) = step (f s.over p) h (walk_map f t)

pub joined_map : {P Q : Edge → Type 0} {u v : ℕ} → ((e : Edge) → P e → Q e) → JoinedBy P u v → JoinedBy Q u v
joined_map f h = record { steps = h.steps; walk = walk_map f h.walk }

pub cycle_map : {P Q : Edge → Type 0} {u : ℕ} → ((e : Edge) → P e → Q e) → CycleOver P u → CycleOver Q u
cycle_map f c = record { steps = c.steps; closed = walk_map f c.closed; two = c.two; edges_apart = c.edges_apart; vertices_apart = c.vertices_apart }

pub acyclic_map : {P Q : Edge → Type 0} → ((e : Edge) → P e → Q e) → AcyclicOver Q → AcyclicOver P
acyclic_map f a u c = a u (cycle_map f c)

pub connected_map : {V W : ℕ → Type 0} {P Q : Edge → Type 0} → ((v : ℕ) → V v → W v) → ((v : ℕ) → W v → V v) → ((e : Edge) → P e → Q e) → ConnectedOver V P → ConnectedOver W Q
connected_map to back f c = record { one = (c.one.0, to c.one.0 c.one.1); all = λ u v i j. joined_map f (c.all u v (back u i) (back v j)) }

-- all vertices are joined to one of them
pub connected_by_hub : {V : ℕ → Type 0} {P : Edge → Type 0} (h : ℕ) → V h → ((u : ℕ) → V u → JoinedBy P u h) → ConnectedOver V P
connected_by_hub h i to = record { one = (h, i); all = λ u v j k. joined_trans (to u j) (joined_sym (to v k)) }

pub gap_not_connected : {V : ℕ → Type 0} {P : Edge → Type 0} → GapOver V P → ConnectedOver V P → ⊥
gap_not_connected g c = g.no_walk (c.all g.one g.other g.one_in g.other_in)

-- a walk that does not cross the edge n is a walk over the others
pub walk_except : {P : Edge → Type 0} {u v : ℕ} {ss : List Step} (n : ℕ) → Walk P u ss v → (In n (map crossed ss) → ⊥) → Walk (Except P n) u ss v
walk_except n (stop p) a = stop p
walk_except n (step p h t) a = step (record { is = p; other = λ q. a (here (sym q)) }) h (walk_except n t (λ i. a (there i)))

-- along a map f of the vertices: each edge becomes a walk
walk_along : {P Q : Edge → Type 0} (f : ℕ → ℕ) → ((e : Edge) → P e → JoinedBy Q (f e.from) (f e.to)) → {u v : ℕ} {ss : List Step} → Walk P u ss v → JoinedBy Q (f u) (f v)
walk_along f h (stop p) = joined_eq (ap f p)
walk_along f h (step {s = s} k (inl e) t) = joined_trans (joined_eq (sym (ap f e.0))) (joined_trans (h s.over k) (joined_trans (joined_eq (ap f e.1)) (walk_along f h t)))
walk_along f h (step {s = s} k (inr e) t) = joined_trans (joined_eq (sym (ap f e.0))) (joined_trans (joined_sym (h s.over k)) (joined_trans (joined_eq (ap f e.1)) (walk_along f h t)))

pub joined_along : {P Q : Edge → Type 0} (f : ℕ → ℕ) → ((e : Edge) → P e → JoinedBy Q (f e.from) (f e.to)) → {u v : ℕ} → JoinedBy P u v → JoinedBy Q (f u) (f v)
joined_along f h j = walk_along f h j.walk

-- no walk leaves what no edge leaves

pub walk_stays : {P : Edge → Type 0} (I : ℕ → Type 0) → ((e : Edge) → P e → I e.from → I e.to) → ((e : Edge) → P e → I e.to → I e.from) → {u v : ℕ} {ss : List Step} → Walk P u ss v → I u → I v
walk_stays I forth back (stop p) i = subst I p i
walk_stays I forth back (step {s = s} k (inl e) t) i = walk_stays I forth back t (subst I e.1 (forth s.over k (subst I (sym e.0) i)))
walk_stays I forth back (step {s = s} k (inr e) t) i = walk_stays I forth back t (subst I e.1 (back s.over k (subst I (sym e.0) i)))

pub joined_stays : {P : Edge → Type 0} (I : ℕ → Type 0) → ((e : Edge) → P e → I e.from → I e.to) → ((e : Edge) → P e → I e.to → I e.from) → {u v : ℕ} → JoinedBy P u v → I u → I v
joined_stays I forth back j i = walk_stays I forth back j.walk i

-- where a walk comes to

-- a walk of one step or more reaches its end
pub end_reached : {P : Edge → Type 0} {u v : ℕ} {ss : List Step} → Walk P u ss v → 1 ≤ length ss → In v (map reached ss)
end_reached (stop p) l = absurd (omega arith)
end_reached (step p h (stop q)) l = here (sym q)
end_reached (step p h (step q k t)) l = there (end_reached (step q k t) (omega arith))

-- every vertex that a walk reaches is an end of one of its edges
pub reached_ends : {P : Edge → Type 0} (V : ℕ → Type 0) → ((e : Edge) → P e → V e.from × V e.to) → {u v : ℕ} {ss : List Step} → Walk P u ss v → (x : ℕ) → In x (map reached ss) → V x
reached_ends V h (stop p) x i = absurd (not_in_nil i)
reached_ends V h (step {s = s} k (inl e) t) x (here q) = subst V (e.1 ∙ sym q) (h s.over k).1
reached_ends V h (step {s = s} k (inr e) t) x (here q) = subst V (e.1 ∙ sym q) (h s.over k).0
reached_ends V h (step k e t) x (there i) = reached_ends V h t x i

-- shortened until no vertex repeats

-- a walk that repeats no vertex
pub record Path (P : Edge → Type 0) (u v : ℕ) : Type 0 where
  pub steps : List Step
  pub walk : Walk P u steps v
  pub apart : Apart (u ∷ map reached steps)

-- the part of a path from one of its vertices on
path_from : {P : Edge → Type 0} {w v : ℕ} {ss : List Step} → Walk P w ss v → Apart (w ∷ map reached ss) → (u : ℕ) → In u (w ∷ map reached ss) → Path P u v
path_from (stop p) a u (here q) = record { steps = []; walk = stop (q ∙ p); apart = (not_in_nil, tt) }
path_from (stop p) a u (there i) = absurd (not_in_nil i)
path_from (step {s = s} {ss = ss} p h t) a u (here q) = record { steps = s ∷ ss; walk = rw q (step p h t); apart = rw q a }
path_from (step p h t) a u (there i) = path_from t a.1 u i

walk_shortened : {P : Edge → Type 0} {u v : ℕ} {ss : List Step} → Walk P u ss v → Path P u v
walk_shortened (stop p) = record { steps = []; walk = stop p; apart = (not_in_nil, tt) }
walk_shortened {u} (step {s = s} p h t) =
    let k = walk_shortened t in
    elim (in_or_not u (s.at ∷ map reached k.steps)) [ inl i ↦ path_from k.walk k.apart u i | inr n ↦ record { steps = s ∷ k.steps; walk = step p h k.walk; apart = (n, k.apart) } ]

pub shortened : {P : Edge → Type 0} {u v : ℕ} → JoinedBy P u v → Path P u v
shortened h = walk_shortened h.walk
