-- Two wires, a par of their positive ends and a tensor of the par with the negative end of the first: left is the only
-- bad side. There the second wire is left alone, and the first, the par and the tensor go round.
use Rattle.std.proofs.Common.{◌≡◌, ℕ, zero, suc, ◌+◌, ◌≢◌, ◌⊎◌, [], ◌∷◌, sym, refl, ap, ◌∙◌, subst, inl, inr, ⊎_elim, arith}
use Rattle.graphs.specs.Walks.{Edge, JoinedBy}
use Rattle.graphs.specs.Walks.Walk.{stop, step}
use Rattle.graphs.proofs.Tests.{apart_by_test}
use Rattle.graphs.proofs.Walks.{joined_eq, joined_trans, joined_edge, joined_stays, connected_by_hub}
use Rattle.links.specs.declared.link.Link.TheVariants.{Cut}
use Rattle.links.specs.Links.{link_at, Concludes, Uses, LinkStands, Stands}
use Rattle.links.specs.Formulas.{Formula, atom, co_atom, tensor, par, Reads}
use Rattle.links.specs.Facts.{EndsDiffer, InRange, Facts}
use Rattle.links.proofs.Descent.{facts_of}
use Rattle.switchings.specs.Switchings.{pick, Switching, Keeps, Kept, Connected, OnCycle, NoWalk}
use Rattle.switchings.specs.Switchings.Side.{left, right}
use Rattle.switchings.specs.Rows.{sides_of}
use Rattle.switchings.specs.Edges.{standing_below, standing, axioms_of, joins_of}
use Rattle.switchings.specs.Samples.{crossing, LeftIsTheOnlyBadSide}
use Rattle.switchings.proofs.Drawn.{joins_acyclic}

-- which link concludes an occurrence, and which uses it

abbrev concluder : ℕ → ℕ
concluder zero = 0
concluder (suc zero) = 1
concluder (suc (suc zero)) = 1
concluder (suc (suc (suc zero))) = 2
concluder (suc (suc (suc (suc zero)))) = 2
concluder (suc (suc (suc (suc (suc zero))))) = 3
concluder (suc (suc (suc (suc (suc (suc k)))))) = 4

concluded_by : (n o : ℕ) → Concludes (link_at crossing n) o → n ≡ concluder o
concluded_by zero o c = absurd c
concluded_by (suc zero) o c = ⊎_elim (λ e. ap concluder e) (λ e. ap concluder e) c
concluded_by (suc (suc zero)) o c = ⊎_elim (λ e. ap concluder e) (λ e. ap concluder e) c
concluded_by (suc (suc (suc zero))) o c = ap concluder c
concluded_by (suc (suc (suc (suc zero)))) o c = ap concluder c
concluded_by (suc (suc (suc (suc (suc k))))) o c = absurd c

abbrev user : ℕ → ℕ
user zero = 0
user (suc zero) = 3
user (suc (suc zero)) = 4
user (suc (suc (suc zero))) = 3
user (suc (suc (suc (suc k)))) = 4

used_by : (n o : ℕ) → Uses (link_at crossing n) o → n ≡ user o
used_by zero o u = absurd u
used_by (suc zero) o u = absurd u
used_by (suc (suc zero)) o u = absurd u
used_by (suc (suc (suc zero))) o u = ⊎_elim (λ e. ap user e) (λ e. ap user e) u
used_by (suc (suc (suc (suc zero)))) o u = ⊎_elim (λ e. ap user e) (λ e. ap user e) u
used_by (suc (suc (suc (suc (suc k))))) o u = absurd u

-- the facts

differ : (n : ℕ) → EndsDiffer (link_at crossing n)
differ zero = tt
differ (suc zero) = λ e. omega arith
differ (suc (suc zero)) = λ e. omega arith
differ (suc (suc (suc zero))) = λ e. omega arith
differ (suc (suc (suc (suc zero)))) = λ e. omega arith
differ (suc (suc (suc (suc (suc k))))) = tt

ranged : (n : ℕ) → InRange n (link_at crossing n)
ranged zero = tt
ranged (suc zero) = ((omega arith, omega arith), (omega arith, omega arith), (omega arith, omega arith), (omega arith, omega arith))
ranged (suc (suc zero)) = ((omega arith, omega arith), (omega arith, omega arith), (omega arith, omega arith), (omega arith, omega arith))
ranged (suc (suc (suc zero))) = ((omega arith, omega arith), (omega arith, omega arith), (omega arith, omega arith), (omega arith, omega arith))
ranged (suc (suc (suc (suc zero)))) = ((omega arith, omega arith), (omega arith, omega arith), (omega arith, omega arith), (omega arith, omega arith))
ranged (suc (suc (suc (suc (suc k))))) = tt

premise_stands : (n o : ℕ) → Uses (link_at crossing n) o → Stands crossing o
premise_stands zero o u = absurd u
premise_stands (suc zero) o u = absurd u
premise_stands (suc (suc zero)) o u = absurd u
premise_stands (suc (suc (suc zero))) o u = ⊎_elim (λ e. (1, inl e)) (λ e. (2, inl e)) u
premise_stands (suc (suc (suc (suc zero)))) o u = ⊎_elim (λ e. (3, e)) (λ e. (1, inr e)) u
premise_stands (suc (suc (suc (suc (suc k))))) o u = absurd u

read : {o p : ℕ} (F : Formula) → Reads crossing p F → p ≡ o → (G : Formula) × Reads crossing o G
read F h e = (F, subst (λ (x : ℕ). Reads crossing x F) e h)

formula : (n o : ℕ) → Concludes (link_at crossing n) o → (F : Formula) × Reads crossing o F
formula zero o c = absurd c
formula (suc zero) o c = ⊎_elim (read (atom 1) (1, 2, refl)) (read (co_atom 1) (1, 1, refl)) c
formula (suc (suc zero)) o c = ⊎_elim (read (atom 1) (2, 4, refl)) (read (co_atom 1) (2, 3, refl)) c
formula (suc (suc (suc zero))) o c = read (par (atom 1) (atom 1)) (3, 1, 3, refl, (1, 2, refl), (2, 4, refl)) c
formula (suc (suc (suc (suc zero)))) o c = read (tensor (par (atom 1) (atom 1)) (co_atom 1)) (4, 5, 2, refl, (3, 1, 3, refl, (1, 2, refl), (2, 4, refl)), (1, 1, refl)) c
formula (suc (suc (suc (suc (suc k))))) o c = absurd c

no_cut : (n a b : ℕ) → link_at crossing n ≡ Cut a b → ⊥
no_cut zero a b e = let z : ◌≡◌ {A = ℕ} 0 1 = cc in omega arith
no_cut (suc zero) a b e = let z : ◌≡◌ {A = ℕ} 0 1 = cc in omega arith
no_cut (suc (suc zero)) a b e = let z : ◌≡◌ {A = ℕ} 0 1 = cc in omega arith
no_cut (suc (suc (suc zero))) a b e = let z : ◌≡◌ {A = ℕ} 0 1 = cc in omega arith
no_cut (suc (suc (suc (suc zero)))) a b e = let z : ◌≡◌ {A = ℕ} 0 1 = cc in omega arith
no_cut (suc (suc (suc (suc (suc k))))) a b e = let z : ◌≡◌ {A = ℕ} 0 1 = cc in omega arith

crossing_facts : Facts crossing
crossing_facts = facts_of crossing (record {
  concluded_once = λ m n o a b. concluded_by m o a ∙ sym (concluded_by n o b);
  used_once = λ m n o a b. used_by m o a ∙ sym (used_by n o b);
  ends_differ = differ;
  premises_stand = premise_stands;
  has_formula = λ o s. formula s.0 o s.1;
  cuts_dual = λ n a b e. absurd (no_cut n a b e);
  in_range = ranged;
})

-- left: the par keeps the end of the first wire

left_cyclic : (σ : Switching) → σ 3 ≡ left → OnCycle crossing σ 1
left_cyclic σ e = record {
  steps = record { over = record { name = 1; from = 1; to = 3 }; at = 3 } ∷ record { over = record { name = 5; from = 3; to = 4 }; at = 4 } ∷ record { over = record { name = 2; from = 1; to = 4 }; at = 1 } ∷ [];
  closed = step (record { ends = inl refl; keeps = ap (λ s. pick s 1 3) e }) (inl (refl, refl)) (step (record { ends = refl; keeps = inl refl }) (inl (refl, refl)) (step (record { ends = inr refl; keeps = inr refl }) (inr (refl, refl)) (stop refl)));
  two = omega arith;
  edges_apart = apart_by_test (1 ∷ 5 ∷ 2 ∷ []) refl;
  vertices_apart = apart_by_test (3 ∷ 4 ∷ 1 ∷ []) refl;
}

-- no kept occurrence comes from the second wire or leads to it
left_alone_from : (σ : Switching) → σ 3 ≡ left → (e : Edge) → Kept crossing σ e → e.from ≢ 2
left_alone_from σ l e k q =
    let c : (3 ≡ e.name) ⊎ (4 ≡ e.name) = subst (λ (n : ℕ). Concludes (link_at crossing n) e.name) q k.ends in
    not_kept e.to e.name c k.keeps
  where
    not_kept : (n o : ℕ) → (3 ≡ o) ⊎ (4 ≡ o) → Keeps (σ n) (link_at crossing n) o → ⊥
    not_kept zero o c h = h
    not_kept (suc zero) o c h = h
    not_kept (suc (suc zero)) o c h = h
    not_kept (suc (suc (suc zero))) o c h = let p : 1 ≡ o = ap (λ s. pick s 1 3) (sym l) ∙ h in ⊎_elim (λ x. omega arith) (λ x. omega arith) c
    not_kept (suc (suc (suc (suc zero)))) o c h = ⊎_elim (λ x. ⊎_elim (λ y. omega arith) (λ y. omega arith) h) (λ x. ⊎_elim (λ y. omega arith) (λ y. omega arith) h) c
    not_kept (suc (suc (suc (suc (suc k))))) o c h = h

left_alone_to : (σ : Switching) (e : Edge) → Kept crossing σ e → e.to ≢ 2
left_alone_to σ e k q = subst (λ (n : ℕ). Keeps (σ n) (link_at crossing n) e.name) q k.keeps

left_apart : (σ : Switching) → σ 3 ≡ left → NoWalk crossing σ 1 2
left_apart σ l = record {
  one_stands = λ e. let z : ◌≡◌ {A = ℕ} 0 1 = cc in omega arith;
  other_stands = λ e. let z : ◌≡◌ {A = ℕ} 0 1 = cc in omega arith;
  no_walk = λ j. joined_stays (λ n. n ≢ 2) (λ e k h. left_alone_to σ e k) (λ e k h. left_alone_from σ l e k) j (λ e. omega arith) refl;
}

-- right: it keeps the end of the second, and all are joined to the tensor

right_connected : (σ : Switching) → σ 3 ≡ right → Connected crossing σ
right_connected σ r = connected_by_hub 4 (λ e. let z : ◌≡◌ {A = ℕ} 0 1 = cc in omega arith) to
  where
    par_to_tensor : JoinedBy (Kept crossing σ) 3 4
    par_to_tensor = joined_edge (record { name = 5; from = 3; to = 4 }) (record { ends = refl; keeps = inl refl }) (inl (refl, refl))

    to : (u : ℕ) → LinkStands crossing u → JoinedBy (Kept crossing σ) u 4
    to zero s = absurd (s refl)
    to (suc zero) s = joined_edge (record { name = 2; from = 1; to = 4 }) (record { ends = inr refl; keeps = inr refl }) (inl (refl, refl))
    to (suc (suc zero)) s = joined_trans (joined_edge (record { name = 3; from = 2; to = 3 }) (record { ends = inl refl; keeps = ap (λ x. pick x 1 3) r }) (inl (refl, refl))) par_to_tensor
    to (suc (suc (suc zero))) s = par_to_tensor
    to (suc (suc (suc (suc zero)))) s = joined_eq refl
    to (suc (suc (suc (suc (suc k))))) s = absurd (s refl)

one_axiom_more : axioms_of crossing (standing crossing) ≡ joins_of crossing (standing crossing) + 1
unfolding standing_below
one_axiom_more = refl

pub left_is_the_only_bad_side_lem : LeftIsTheOnlyBadSide
left_is_the_only_bad_side_lem = record {
  facts = crossing_facts;
  left_cyclic = left_cyclic;
  left_apart = left_apart;
  right_connected = right_connected;
  right_acyclic = λ σ r. joins_acyclic crossing crossing_facts σ (right_connected σ r) one_axiom_more;
  row_cyclic = left_cyclic (sides_of (0 ∷ 0 ∷ 1 ∷ 0 ∷ [])) refl;
  row_connected = right_connected (sides_of (0 ∷ 0 ∷ 2 ∷ 0 ∷ [])) refl;
}
