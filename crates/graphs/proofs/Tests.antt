-- Graphs that are written out: tests that compute, and what passing one shows.
use Rattle.std.proofs.Common.{◌≡◌, ℕ, Bool, true, not, ◌&&◌, eqb, List, [], ◌∷◌, map, ap, ◌∙◌}
use Rattle.std.proofs.lemmas.Bool.{eqb-true, and_parts, not-true, both_ways}
use Rattle.graphs.specs.Lists.In.{here, there}
use Rattle.graphs.specs.Lists.{In, Apart}
use Rattle.graphs.specs.Selections.{has}
use Rattle.graphs.specs.Walks.{Edge, name_of}
use Rattle.graphs.specs.Graphs.{Graph, Connected}
use Rattle.graphs.specs.Classes.{class_of}
use Rattle.graphs.proofs.Members.{not_in_nil, has_in, in_has}
use Rattle.graphs.proofs.Walks.{connected_by_hub}
use Rattle.graphs.proofs.Classes.{one_class_joined}

abbrev pub apart_test : List ℕ → Bool
apart_test [] = true
apart_test (x ∷ xs) = not (has x xs) && apart_test xs

pub apart_by_test : (xs : List ℕ) → apart_test xs ≡ true → Apart xs
apart_by_test [] p = tt
apart_by_test (x ∷ xs) p =
    let k = and_parts (not (has x xs)) (apart_test xs) p in
    (λ i. both_ways (has x xs) (not-true (has x xs) k.0) (in_has x xs i), apart_by_test xs k.1)

abbrev pub each_test : {A : Type 0} → (A → Bool) → List A → Bool
each_test f [] = true
each_test f (x ∷ xs) = f x && each_test f xs

pub each_by_test : {A : Type 0} (f : A → Bool) (xs : List A) → each_test f xs ≡ true → (x : A) → In x xs → f x ≡ true
each_by_test f [] p x i = absurd (not_in_nil i)
each_by_test f (y ∷ ys) p x (here q) = ap f q ∙ (and_parts (f y) (each_test f ys) p).0
each_by_test f (y ∷ ys) p x (there i) = each_by_test f ys (and_parts (f y) (each_test f ys) p).1 x i

-- all parts of `Graph`, as one test
abbrev pub graph_test : List ℕ → List Edge → Bool
graph_test V E = apart_test V && (apart_test (map name_of E) && (each_test (λ e. has e.from V) E && each_test (λ e. has e.to V) E))

pub graph_by_test : (V : List ℕ) (E : List Edge) → graph_test V E ≡ true → Graph V E
graph_by_test V E p =
    let a = and_parts (apart_test V) (apart_test (map name_of E) && (each_test (λ e. has e.from V) E && each_test (λ e. has e.to V) E)) p in
    let b = and_parts (apart_test (map name_of E)) (each_test (λ e. has e.from V) E && each_test (λ e. has e.to V) E) a.1 in
    let c = and_parts (each_test (λ e. has e.from V) E) (each_test (λ e. has e.to V) E) b.1 in
    record {
      apart = apart_by_test V a.0;
      named = apart_by_test (map name_of E) b.0;
      from_in = λ e i. has_in e.from V (each_by_test (λ d. has d.from V) E c.0 e i);
      to_in = λ e i. has_in e.to V (each_by_test (λ d. has d.to V) E c.1 e i);
    }

-- each vertex has the label of the first
abbrev pub connected_test : ℕ → List ℕ → List Edge → Bool
connected_test v V E = each_test (λ w. eqb (class_of E w) (class_of E v)) V

pub connected_by_test : (v : ℕ) (V : List ℕ) (E : List Edge) → In v V → connected_test v V E ≡ true → Connected V E
connected_by_test v V E i p = connected_by_hub v i (λ u j. one_class_joined E u v (eqb-true (class_of E u) (class_of E v) (each_by_test (λ w. eqb (class_of E w) (class_of E v)) V p u j)))
