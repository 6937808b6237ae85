-- The counting theorem, by adding the edges one by one, and what follows of it: trees, graphs with many edges and
-- graphs with few. Assumes nothing.
use Rattle.std.proofs.Common.{◌≡◌, ℕ, suc, ◌+◌, ◌≤◌, eqb, ◌⊎◌, List, [], ◌∷◌, length, sym, refl, ◌∙◌, inl, inr, arith}
use Rattle.std.proofs.lemmas.Bool.{eq-eqb, eqb-true, cases_eq}
use Rattle.graphs.specs.Lists.In.{here, there}
use Rattle.graphs.specs.Lists.{In}
use Rattle.graphs.specs.Walks.{Edge}
use Rattle.graphs.specs.Graphs.{Graph, Joined, Cycle, Connected, Loopless}
use Rattle.graphs.specs.Classes.{class_of, classes}
use Rattle.graphs.specs.Theorems.{ClassesAndEdgesCoverTheVertices, TreeHasNoCycle, TreeHasOneEdgeLess, ManyEdgesMakeACycle, FewEdgesLeaveAGap}
use Rattle.graphs.proofs.Counts.{count_positive, count_at_most_one, count_of_two_has_a_pair}
use Rattle.graphs.proofs.Walks.{cycle_map}
use Rattle.graphs.proofs.Classes.{joined_one_class, one_class_joined, label_own_label, label_in, classes_without_edges, classes_stay, classes_fall_by_one}
use Rattle.graphs.proofs.Forests.{Grown, grown_acyclic, grown_loopless, forest_grown, first_edge_closes}

pub graph_without_first : (V : List ℕ) (e : Edge) (E : List Edge) → Graph V (e ∷ E) → Graph V E
graph_without_first V e E g = record {
  apart = g.apart;
  named = g.named.1;
  from_in = λ d i. g.from_in d (there i);
  to_in = λ d i. g.to_in d (there i);
}

-- the ends of the new edge were joined, and the classes stay; or they were not, and there is one class less
one_edge_more : (V : List ℕ) (e : Edge) (E : List Edge) → Graph V (e ∷ E) → (Joined E e.from e.to × (classes V (e ∷ E) ≡ classes V E)) ⊎ ((Joined E e.from e.to → ⊥) × (classes V E ≡ suc (classes V (e ∷ E))))
one_edge_more V e E g =
    elim (cases_eq (class_of E e.from) (class_of E e.to)) [
      | inl p ↦ inl (one_class_joined E e.from e.to p, classes_stay V e E p)
      | inr h ↦ inr (λ j. h (joined_one_class E j), classes_fall_by_one V e E g.apart (label_in V E (λ d i. g.from_in d (there i)) e.to (g.to_in e (here refl))) h)
    ]

-- each edge joined two classes
record Exact (V : List ℕ) (E : List Edge) : Type 0 where
  grown : Grown E
  total : length V ≡ classes V E + length E

-- one edge did not
record Beyond (V : List ℕ) (E : List Edge) : Type 0 where
  not_grown : Grown E → ⊥
  total : length V + 1 ≤ classes V E + length E
  cycle : Loopless E → (u : ℕ) × Cycle E u

exact_or_beyond : (V : List ℕ) (E : List Edge) → Graph V E → Exact V E ⊎ Beyond V E
exact_or_beyond V [] g = let p = classes_without_edges V in inl (record { grown = tt; total = omega arith })
exact_or_beyond V (e ∷ E) g =
    let closes : Joined E e.from e.to → Loopless (e ∷ E) → (u : ℕ) × Cycle (e ∷ E) u = λ j l. (e.from, first_edge_closes e E g.named l j) in
    elim (exact_or_beyond V E (graph_without_first V e E g)) [
      | inl m ↦ elim (one_edge_more V e E g) [
        | inl k ↦ inr (record { not_grown = λ h. h.0 k.0; total = omega arith; cycle = closes k.0 })
        | inr k ↦ inl (record { grown = (k.0, m.grown); total = omega arith })
      ]
      | inr m ↦ elim (one_edge_more V e E g) [
        | inl k ↦ inr (record { not_grown = λ h. h.0 k.0; total = omega arith; cycle = closes k.0 })
        | inr k ↦ inr (record { not_grown = λ h. m.not_grown h.1; total = omega arith; cycle = λ l. let c = m.cycle (λ d i. l d (there i)) in (c.0, cycle_map (λ d i. there i) c.1) })
      ]
    ]

pub classes_and_edges_cover_the_vertices_lem : ClassesAndEdgesCoverTheVertices
classes_and_edges_cover_the_vertices_lem V E g =
    elim (exact_or_beyond V E g) [
      | inl k ↦ (omega arith, (λ p. (grown_acyclic E k.grown, grown_loopless E k.grown), λ f. k.total))
      | inr k ↦ (omega arith, (λ p. absurd (omega arith), λ f. absurd (k.not_grown (forest_grown E g.named f.0 f.1))))
    ]

-- a graph with a vertex has a class
pub some_class : (V : List ℕ) (E : List Edge) → Graph V E → (v : ℕ) → In v V → 1 ≤ classes V E
some_class V E g v i = count_positive (λ w. eqb (class_of E w) w) (class_of E v) V (label_in V E g.from_in v i) (eq-eqb (class_of E (class_of E v)) (class_of E v) (label_own_label E v))

pub connected_one_class : (V : List ℕ) (E : List Edge) → Graph V E → Connected V E → classes V E ≡ 1
connected_one_class V E g c =
    let l = some_class V E g c.one.0 c.one.1 in
    let m = count_at_most_one (λ w. eqb (class_of E w) w) V g.apart (λ x y i j p q. sym (eqb-true (class_of E x) x p) ∙ joined_one_class E (c.all x y i j) ∙ eqb-true (class_of E y) y q) in
    omega arith

pub tree_has_no_cycle_lem : TreeHasNoCycle
tree_has_no_cycle_lem V E g c n =
    let o = connected_one_class V E g c in
    elim (exact_or_beyond V E g) [ inl k ↦ grown_acyclic E k.grown | inr k ↦ absurd (omega arith) ]

pub tree_has_one_edge_less_lem : TreeHasOneEdgeLess
tree_has_one_edge_less_lem V E g l c a =
    let o = connected_one_class V E g c in
    elim (exact_or_beyond V E g) [ inl k ↦ omega arith | inr k ↦ let z = k.cycle l in absurd (a z.0 z.1) ]

pub many_edges_make_a_cycle_lem : ManyEdgesMakeACycle
many_edges_make_a_cycle_lem V E g l v i n =
    let o = some_class V E g v i in
    elim (exact_or_beyond V E g) [ inl k ↦ absurd (omega arith) | inr k ↦ k.cycle l ]

-- two heads
pub few_edges_leave_a_gap_lem : FewEdgesLeaveAGap
few_edges_leave_a_gap_lem V E g n =
    let m = (classes_and_edges_cover_the_vertices_lem V E g).0 in
    let k = count_of_two_has_a_pair (λ w. eqb (class_of E w) w) V g.apart (omega arith) in
    record {
      one = k.one;
      other = k.other;
      one_in = k.one_in;
      other_in = k.other_in;
      no_walk = λ j. k.differ (sym (eqb-true (class_of E k.one) k.one k.one_passes) ∙ joined_one_class E j ∙ eqb-true (class_of E k.other) k.other k.other_passes);
    }
