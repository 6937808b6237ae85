-- The labelling: vertices have one label exactly when a walk joins them, a label is its own label, and what one edge
-- more does to the number of classes. Assumes nothing.
use Rattle.std.proofs.Common.{◌≡◌, ℕ, suc, eqb, ◌⊎◌, List, [], ◌∷◌, length, sym, refl, ap, ◌∙◌, inl, inr, arith}
use Rattle.std.proofs.lemmas.Bool.{cases_eq, eq-eqb, ne_eqb}
use Rattle.std.proofs.lemmas.Bool.Decides.{nat_tests}
use Rattle.graphs.specs.Lists.In.{here, there}
use Rattle.graphs.specs.Lists.{In, Among, Apart}
use Rattle.graphs.specs.Walks.{Edge, Step, Walk}
use Rattle.graphs.specs.Walks.Walk.{stop, step}
use Rattle.graphs.specs.Graphs.{Joined}
use Rattle.graphs.specs.Classes.{relabelled, class_of, classes}
use Rattle.graphs.specs.Theorems.{OneClassMeansJoined, EachClassHasOneHead}
use Rattle.graphs.proofs.Members.{not_in_nil}
use Rattle.graphs.proofs.Counts.{count_all, count_same, count_one_less}
use Rattle.graphs.proofs.Walks.{joined_eq, joined_trans, joined_edge, joined_map}

-- one label for what is joined

ends_one_class : (E : List Edge) (e : Edge) → In e E → class_of E e.from ≡ class_of E e.to
unfolding class_of
ends_one_class [] e i = absurd (not_in_nil i)
ends_one_class (d ∷ E) e (here p) = rw p (grind (arith, nat_tests))
ends_one_class (d ∷ E) e (there i) = ap (relabelled (class_of E d.from) (class_of E d.to)) (ends_one_class E e i)

walk_one_class : (E : List Edge) {u v : ℕ} {ss : List Step} → Walk (Among E) u ss v → class_of E u ≡ class_of E v
walk_one_class E (stop p) = ap (class_of E) p
walk_one_class E (step {s = s} i (inl h) t) = let r = walk_one_class E t in let e = ends_one_class E s.over i in cc
walk_one_class E (step {s = s} i (inr h) t) = let r = walk_one_class E t in let e = ends_one_class E s.over i in cc

pub joined_one_class : (E : List Edge) {u v : ℕ} → Joined E u v → class_of E u ≡ class_of E v
joined_one_class E h = walk_one_class E h.walk

-- where relabelling makes x and y one, they were one, or they are the two labels that it makes one
relabelled_cases : (a b x y : ℕ) → relabelled a b x ≡ relabelled a b y → (x ≡ y) ⊎ (((x ≡ a) × (y ≡ b)) ⊎ ((x ≡ b) × (y ≡ a)))
relabelled_cases a b x y p = grind (arith, nat_tests)

pub one_class_joined : (E : List Edge) (u v : ℕ) → class_of E u ≡ class_of E v → Joined E u v
unfolding class_of
one_class_joined [] u v p = joined_eq p
one_class_joined (e ∷ E) u v p =
    let was : (x y : ℕ) → class_of E x ≡ class_of E y → Joined (e ∷ E) x y = λ x y q. joined_map (λ d i. there i) (one_class_joined E x y q) in
    elim (relabelled_cases (class_of E e.from) (class_of E e.to) (class_of E u) (class_of E v) p) [
      | inl q ↦ was u v q
      | inr (inl q) ↦ joined_trans (was u e.from q.0) (joined_trans (joined_edge e (here refl) (inl (refl, refl))) (was e.to v (sym q.1)))
      | inr (inr q) ↦ joined_trans (was u e.to q.0) (joined_trans (joined_edge e (here refl) (inr (refl, refl))) (was e.from v (sym q.1)))
    ]

pub one_class_means_joined_lem : OneClassMeansJoined
one_class_means_joined_lem E u v = (joined_one_class E, one_class_joined E u v)

pub joined_or_not : (E : List Edge) (u v : ℕ) → Joined E u v ⊎ (Joined E u v → ⊥)
joined_or_not E u v = elim (cases_eq (class_of E u) (class_of E v)) [ inl p ↦ inl (one_class_joined E u v p) | inr n ↦ inr (λ j. n (joined_one_class E j)) ]

-- heads

pub label_own_label : (E : List Edge) (v : ℕ) → class_of E (class_of E v) ≡ class_of E v
unfolding class_of
label_own_label [] v = refl
label_own_label (e ∷ E) v = let p = label_own_label E v in let q = label_own_label E e.from in grind (arith, nat_tests)

pub label_in : (V : List ℕ) (E : List Edge) → ((e : Edge) → In e E → In e.from V) → (v : ℕ) → In v V → In (class_of E v) V
unfolding class_of
label_in V [] f v i = i
label_in V (e ∷ E) f v i =
    let r = label_in V E (λ d j. f d (there j)) in
    elim (cases_eq (class_of E v) (class_of E e.to)) [ inl p ↦ rw (eq-eqb (class_of E v) (class_of E e.to) p) (r e.from (f e (here refl))) | inr h ↦ rw (ne_eqb (class_of E v) (class_of E e.to) h) (r v i) ]

pub each_class_has_one_head_lem : EachClassHasOneHead
each_class_has_one_head_lem V E g v i = record {
  vertex = label_in V E g.from_in v i;
  own_label = label_own_label E v;
  joined = one_class_joined E v (class_of E v) (sym (label_own_label E v));
  only = λ w r j. sym r ∙ sym (joined_one_class E j);
}

-- how many classes

pub classes_without_edges : (V : List ℕ) → classes V [] ≡ length V
unfolding class_of
classes_without_edges V = count_all (λ v. eqb (class_of [] v) v) V (λ x i. eq-eqb x x refl)

-- the ends of the new edge had one label
pub classes_stay : (V : List ℕ) (e : Edge) (E : List Edge) → class_of E e.from ≡ class_of E e.to → classes V (e ∷ E) ≡ classes V E
unfolding class_of
classes_stay V e E p = count_same (λ v. eqb (class_of (e ∷ E) v) v) (λ v. eqb (class_of E v) v) V (λ x i. grind (arith, nat_tests))

-- they had two, and the far one is no head any more
pub classes_fall_by_one : (V : List ℕ) (e : Edge) (E : List Edge) → Apart V → In (class_of E e.to) V → (class_of E e.from ≡ class_of E e.to → ⊥) → classes V E ≡ suc (classes V (e ∷ E))
unfolding class_of
classes_fall_by_one V e E a i h =
    let p = label_own_label E e.from in
    let q = label_own_label E e.to in
    count_one_less (λ v. eqb (class_of E v) v) (λ v. eqb (class_of (e ∷ E) v) v) (class_of E e.to) V a i (grind (arith, nat_tests)) (grind (arith, nat_tests)) (λ x n. grind (arith, nat_tests))
