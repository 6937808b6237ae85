-- Cycles: a cycle runs through u exactly when an edge leads from u to another vertex that the other edges join to
-- u. Over any predicate on edges; to make a cycle, names have to tell edges apart.
use Rattle.std.proofs.Common.{◌≡◌, ℕ, ◌≤◌, ◌≢◌, List, [], ◌∷◌, map, length, sym, refl, ap, ◌∙◌, inl, inr, arith}
use Rattle.graphs.specs.Lists.In.{here, there}
use Rattle.graphs.specs.Lists.{In, Among, Apart}
use Rattle.graphs.specs.Walks.{Edge, name_of, Step, crossed, reached, Walk, JoinedBy, CycleOver, AcyclicOver}
use Rattle.graphs.specs.Rounds.{Except, Round}
use Rattle.graphs.specs.Walks.Walk.{stop, step}
use Rattle.graphs.specs.Theorems.{CycleGoesRoundAnEdge, CycleRepeatsNothing, LoopsMakeNoCycle}
use Rattle.graphs.proofs.Members.{not_in_nil, in_map, told_by_image}
use Rattle.graphs.proofs.Counts.{within_no_longer}
use Rattle.graphs.proofs.Walks.{joined_eq, joined_trans, joined_sym, walk_map, walk_except, end_reached, reached_ends, shortened}

-- an edge is told by its name
abbrev pub NamesTell : (Edge → Type 0) → Type 0
NamesTell P = (d e : Edge) → P d → P e → d.name ≡ e.name → d ≡ e

-- the edge of a name that a walk crosses: both its ends are on the walk
record OnWalk (P : Edge → Type 0) (on : List ℕ) (n : ℕ) : Type 0 where
  edge : Edge
  is : P edge
  name_is : edge.name ≡ n
  from_on : In edge.from on
  to_on : In edge.to on

crossed_on_walk : {P : Edge → Type 0} {w v : ℕ} {ss : List Step} → Walk P w ss v → (n : ℕ) → In n (map crossed ss) → OnWalk P (w ∷ map reached ss) n
crossed_on_walk (stop p) n i = absurd (not_in_nil i)
crossed_on_walk (step {s = s} p (inl k) t) n (here q) = record { edge = s.over; is = p; name_is = sym q; from_on = here k.0; to_on = there (here k.1) }
crossed_on_walk (step {s = s} p (inr k) t) n (here q) = record { edge = s.over; is = p; name_is = sym q; from_on = there (here k.1); to_on = here k.0 }
crossed_on_walk (step p h t) n (there i) = let k = crossed_on_walk t n i in record { edge = k.edge; is = k.is; name_is = k.name_is; from_on = there k.from_on; to_on = there k.to_on }

-- a walk that repeats no vertex repeats no edge
edges_apart_on_path : {P : Edge → Type 0} {u v : ℕ} {ss : List Step} → NamesTell P → Walk P u ss v → Apart (u ∷ map reached ss) → Apart (map crossed ss)
edges_apart_on_path tell (stop p) a = tt
edges_apart_on_path tell (step {s = s} {ss = ss} p h t) a = (
  λ i.
      let k = crossed_on_walk t s.over.name i in
      let q = tell k.edge s.over k.is p k.name_is in
      a.0 (elim h [ inl r ↦ rw (ap (λ e. e.from) q ∙ r.0) at k.from_on | inr r ↦ rw (ap (λ e. e.to) q ∙ r.0) at k.to_on ]),
  edges_apart_on_path tell t a.1,
)

some_step : {P : Edge → Type 0} {u v : ℕ} {ss : List Step} → Walk P u ss v → u ≢ v → 1 ≤ length ss
some_step (stop p) h = absurd (h p)
some_step (step p k t) h = omega arith

-- closing: the way round is shortened until no vertex repeats, and the edge closes it
pub round_makes_cycle : {P : Edge → Type 0} {u : ℕ} → NamesTell P → Round P u → CycleOver P u
round_makes_cycle tell r =
    let k = shortened (joined_sym r.around) in
    let l = some_step k.walk (λ p. r.apart (sym p)) in
    record {
      steps = record { over = r.edge; at = r.far } ∷ k.steps;
      closed = step r.is r.ends (walk_map (λ e p. p.is) k.walk);
      two = omega arith;
      edges_apart = (λ i. let c = crossed_on_walk k.walk r.edge.name i in c.is.other c.name_is, edges_apart_on_path (λ d e p q. tell d e p.is q.is) k.walk k.apart);
      vertices_apart = k.apart;
    }

-- an edge whose ends differ and are joined by the others lies on a cycle
pub closing : {P : Edge → Type 0} → NamesTell P → (e : Edge) → P e → e.from ≢ e.to → JoinedBy (Except P e.name) e.from e.to → CycleOver P e.from
closing tell e p n h = round_makes_cycle tell (record { edge = e; is = p; far = e.to; ends = inl (refl, refl); apart = n; around = h })

-- opening: without its first edge a cycle still joins the ends of that edge
first_edge_round : {P : Edge → Type 0} {u v : ℕ} {ss : List Step} → Walk P u ss v → v ≡ u → 2 ≤ length ss → Apart (map crossed ss) → Apart (map reached ss) → Round P u
first_edge_round (stop p) c l a b = absurd (omega arith)
first_edge_round (step {s = s} {ss = ss} p h t) c l a b =
    let m : 1 ≤ length ss = omega arith in
    record {
      edge = s.over;
      is = p;
      far = s.at;
      ends = h;
      apart = λ q. b.0 (rw (c ∙ q) at (end_reached t m));
      around = joined_sym (joined_trans (record { steps = ss; walk = walk_except s.over.name t a.0 }) (joined_eq c));
    }

pub opening : {P : Edge → Type 0} {u : ℕ} → CycleOver P u → Round P u
opening c = first_edge_round c.closed refl c.two c.edges_apart c.vertices_apart

-- names of a list of edges that are apart tell them
pub apart_names_tell : {E : List Edge} → Apart (map name_of E) → NamesTell (Among E)
apart_names_tell a d e i j p = told_by_image name_of a i j p

pub cycle_goes_round_an_edge_lem : CycleGoesRoundAnEdge
cycle_goes_round_an_edge_lem E a u = (opening, round_makes_cycle (apart_names_tell a))

pub loops_acyclic : {P : Edge → Type 0} → ((e : Edge) → P e → e.from ≡ e.to) → AcyclicOver P
loops_acyclic h u c =
    let r = opening c in
    let q = h r.edge r.is in
    r.apart (elim r.ends [ inl k ↦ sym k.0 ∙ q ∙ k.1 | inr k ↦ sym k.0 ∙ sym q ∙ k.1 ])

pub loops_make_no_cycle_lem : LoopsMakeNoCycle
loops_make_no_cycle_lem E h = loops_acyclic h

-- lengths

crossed_listed : {E : List Edge} {u v : ℕ} {ss : List Step} → Walk (Among E) u ss v → (n : ℕ) → In n (map crossed ss) → In n (map name_of E)
crossed_listed t n i = let k = crossed_on_walk t n i in rw k.name_is at (in_map name_of k.is)

length_map : {A B : Type 0} (f : A → B) (xs : List A) → length (map f xs) ≡ length xs
length_map f [] = refl
length_map f (x ∷ xs) = let k = length_map f xs in omega arith

pub cycle_repeats_nothing_lem : CycleRepeatsNothing
cycle_repeats_nothing_lem V E g u c =
    let v = within_no_longer (map reached c.steps) V c.vertices_apart (reached_ends (Among V) (λ e i. (g.from_in e i, g.to_in e i)) c.closed) in
    let e = within_no_longer (map crossed c.steps) (map name_of E) c.edges_apart (crossed_listed c.closed) in
    let a = length_map reached c.steps in
    let b = length_map crossed c.steps in
    let d = length_map name_of E in
    (omega arith, omega arith)
