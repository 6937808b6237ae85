-- The three small structures: their facts, by placing one link after another, and what their switchings are.
use Rattle.std.proofs.Common.{◌≡◌, ℕ, zero, suc, ◌<◌, ◌⊎◌, List, [], ◌∷◌, replicate, refl, subst, inl, inr, ⊎_elim, arith}
use Rattle.graphs.specs.Walks.{Edge}
use Rattle.graphs.specs.Walks.Walk.{stop, step}
use Rattle.graphs.proofs.Members.{apart_two}
use Rattle.graphs.proofs.Walks.{joined_eq, joined_stays, connected_by_hub}
use Rattle.graphs.proofs.Cycles.{loops_acyclic}
use Rattle.links.specs.declared.link.Link.{Link}
use Rattle.links.specs.declared.link.Link.TheVariants.{Empty, Axiom, Tensor}
use Rattle.links.specs.Links.{link_at, Concludes, Uses, LinkStands, Stands, Premise}
use Rattle.links.specs.Facts.{Facts}
use Rattle.links.proofs.Keeping.{place_facts, axiom_welcome, tensor_welcome, nothing_stands, empty_facts}
use Rattle.switchings.specs.Switchings.{Switching, Kept, OnCycle, NoWalk}
use Rattle.switchings.specs.Switchings.Side.{left}
use Rattle.switchings.specs.Samples.{wire, knot, two_wires, OneWireIsCorrect, TensorOnOneWireIsCyclic, TwoWiresAreApart}
use Rattle.switchings.proofs.Listed.{kept_use}

-- facts

none_standing : (n o : ℕ) → Stands (replicate n Empty) o → ⊥
none_standing n o s = subst (λ (z : Link). Concludes z o) (nothing_stands n s.0) s.1

wire_facts : Facts wire
wire_facts =
    place_facts (replicate 2 Empty) 1 (Axiom 1 2 1) (axiom_welcome (replicate 2 Empty) 1 (omega arith) refl 1 2 1 ((omega arith, omega arith), (omega arith, omega arith), (omega arith, omega arith), (omega arith, omega arith)) (λ e. omega arith) (none_standing 2 1) (none_standing 2 2)) (empty_facts (replicate 2 Empty) (nothing_stands 2))

-- a wire, and room for one more link
abbrev begun : List Link
begun = Empty ∷ Axiom 1 2 1 ∷ Empty ∷ []

begun_facts : Facts begun
begun_facts =
    place_facts (replicate 3 Empty) 1 (Axiom 1 2 1) (axiom_welcome (replicate 3 Empty) 1 (omega arith) refl 1 2 1 ((omega arith, omega arith), (omega arith, omega arith), (omega arith, omega arith), (omega arith, omega arith)) (λ e. omega arith) (none_standing 3 1) (none_standing 3 2)) (empty_facts (replicate 3 Empty) (nothing_stands 3))

begun_concludes : (n o : ℕ) → Concludes (link_at begun n) o → (1 ≡ o) ⊎ (2 ≡ o)
begun_concludes zero o c = absurd c
begun_concludes (suc zero) o c = c
begun_concludes (suc (suc zero)) o c = absurd c
begun_concludes (suc (suc (suc k))) o c = absurd c

begun_uses : (n o : ℕ) → Uses (link_at begun n) o → ⊥
begun_uses zero o u = u
begun_uses (suc zero) o u = u
begun_uses (suc (suc zero)) o u = u
begun_uses (suc (suc (suc k))) o u = u

begun_fresh : (o : ℕ) → 2 < o → Stands begun o → ⊥
begun_fresh o h s = ⊎_elim (λ e. omega arith) (λ e. omega arith) (begun_concludes s.0 o s.1)

begun_unused : (o : ℕ) → Premise begun o → ⊥
begun_unused o p = begun_uses p.0 o p.1

knot_facts : Facts knot
knot_facts =
    place_facts begun 2 (Tensor 1 2 3) (tensor_welcome begun 2 (omega arith) refl begun_facts 1 2 3 ((omega arith, omega arith), (omega arith, omega arith), (omega arith, omega arith), (omega arith, omega arith)) (λ e. omega arith) (begun_fresh 3 (omega arith)) (1, inl refl) (1, inr refl) (begun_unused 1) (begun_unused 2)) begun_facts

two_wires_facts : Facts two_wires
two_wires_facts =
    place_facts begun 2 (Axiom 3 4 1) (axiom_welcome begun 2 (omega arith) refl 3 4 1 ((omega arith, omega arith), (omega arith, omega arith), (omega arith, omega arith), (omega arith, omega arith)) (λ e. omega arith) (begun_fresh 3 (omega arith)) (begun_fresh 4 (omega arith))) begun_facts

-- one wire: one point and no edge

wire_stands : (n : ℕ) → LinkStands wire n → n ≡ 1
wire_stands zero s = absurd (s refl)
wire_stands (suc zero) s = refl
wire_stands (suc (suc k)) s = absurd (s refl)

wire_uses : (n o : ℕ) → Uses (link_at wire n) o → ⊥
wire_uses zero o u = u
wire_uses (suc zero) o u = u
wire_uses (suc (suc k)) o u = u

pub one_wire_is_correct_lem : OneWireIsCorrect
one_wire_is_correct_lem = record {
  facts = wire_facts;
  correct = record {
    connected = λ σ. connected_by_hub 1 (λ e. let z : ◌≡◌ {A = ℕ} 0 1 = cc in omega arith) (λ u s. joined_eq (wire_stands u s));
    acyclic = λ σ. loops_acyclic (λ e k. absurd (wire_uses e.to e.name (kept_use k)));
  };
}

-- a wire with a tensor on its two ends: two edges between the two links

abbrev premise : ℕ → Edge
premise o = record { name = o; from = 1; to = 2 }

knot_wire_on_cycle : (σ : Switching) → OnCycle knot σ 1
knot_wire_on_cycle σ = record {
  steps = record { over = premise 1; at = 2 } ∷ record { over = premise 2; at = 1 } ∷ [];
  closed = step (record { ends = inl refl; keeps = inl refl }) (inl (refl, refl)) (step (record { ends = inr refl; keeps = inr refl }) (inr (refl, refl)) (stop refl));
  two = omega arith;
  edges_apart = apart_two (λ e. omega arith);
  vertices_apart = apart_two (λ e. omega arith);
}

knot_tensor_on_cycle : (σ : Switching) → OnCycle knot σ 2
knot_tensor_on_cycle σ = record {
  steps = record { over = premise 1; at = 1 } ∷ record { over = premise 2; at = 2 } ∷ [];
  closed = step (record { ends = inl refl; keeps = inl refl }) (inr (refl, refl)) (step (record { ends = inr refl; keeps = inr refl }) (inl (refl, refl)) (stop refl));
  two = omega arith;
  edges_apart = apart_two (λ e. omega arith);
  vertices_apart = apart_two (λ e. omega arith);
}

pub tensor_on_one_wire_is_cyclic_lem : TensorOnOneWireIsCyclic
tensor_on_one_wire_is_cyclic_lem = record {
  facts = knot_facts;
  wire_on_cycle = knot_wire_on_cycle;
  tensor_on_cycle = knot_tensor_on_cycle;
  incorrect = λ c. c.acyclic (λ n. left) 1 (knot_wire_on_cycle (λ n. left));
}

-- two wires: two points and no edge

two_wires_uses : (n o : ℕ) → Uses (link_at two_wires n) o → ⊥
two_wires_uses zero o u = u
two_wires_uses (suc zero) o u = u
two_wires_uses (suc (suc zero)) o u = u
two_wires_uses (suc (suc (suc k))) o u = u

two_wires_unjoined : (σ : Switching) → NoWalk two_wires σ 1 2
two_wires_unjoined σ =
    let none : (e : Edge) → Kept two_wires σ e → ⊥ = λ e k. two_wires_uses e.to e.name (kept_use k) in
    record {
      one_stands = λ e. let z : ◌≡◌ {A = ℕ} 0 1 = cc in omega arith;
      other_stands = λ e. let z : ◌≡◌ {A = ℕ} 0 1 = cc in omega arith;
      no_walk = λ j. let stays : 2 ≡ 1 = joined_stays (λ n. n ≡ 1) (λ e k. absurd (none e k)) (λ e k. absurd (none e k)) j refl in omega arith;
    }

pub two_wires_are_apart_lem : TwoWiresAreApart
two_wires_are_apart_lem = record {
  facts = two_wires_facts;
  apart = two_wires_unjoined;
  incorrect = λ c. let w = two_wires_unjoined (λ n. left) in w.no_walk ((c.connected (λ n. left)).all 1 2 w.one_stands w.other_stands);
}
