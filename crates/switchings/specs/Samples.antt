-- Small structures that are written out, to try the definitions on. All have the facts: one is correct, one has a cycle
-- in every switching, one falls apart in every switching, and of one just the left side is bad.
use Rattle.std.specs.Prelude.{◌≡◌, List, [], ◌∷◌}
use Rattle.graphs.specs.Walks.{AcyclicOver}
use Rattle.links.specs.declared.link.Link.{Link}
use Rattle.links.specs.declared.link.Link.TheVariants.{Empty, Axiom, Tensor, Par}
use Rattle.links.specs.Facts.{Facts}
use Rattle.switchings.specs.Switchings.{Switching, Kept, Connected, OnCycle, NoWalk, Correct}
use Rattle.switchings.specs.Switchings.Side.{left, right}
use Rattle.switchings.specs.Rows.{sides_of}

-- one wire
abbrev pub wire : List Link
wire = Empty ∷ Axiom 1 2 1 ∷ []

-- a wire with a tensor on its two ends
abbrev pub knot : List Link
knot = Empty ∷ Axiom 1 2 1 ∷ Tensor 1 2 3 ∷ []

-- two wires
abbrev pub two_wires : List Link
two_wires = Empty ∷ Axiom 1 2 1 ∷ Axiom 3 4 1 ∷ []

-- two wires, a par of their positive ends, and a tensor of the par with the negative end of the first
abbrev pub crossing : List Link
crossing = Empty ∷ Axiom 1 2 1 ∷ Axiom 3 4 1 ∷ Par 1 3 5 ∷ Tensor 5 2 6 ∷ []

-- what holds of each
pub record OneWireIsCorrect : Type 0 where
  pub facts : Facts wire
  pub correct : Correct wire

pub record TensorOnOneWireIsCyclic : Type 0 where
  pub facts : Facts knot
  pub wire_on_cycle : (σ : Switching) → OnCycle knot σ 1
  pub tensor_on_cycle : (σ : Switching) → OnCycle knot σ 2
  pub incorrect : Correct knot → ⊥

pub record TwoWiresAreApart : Type 0 where
  pub facts : Facts two_wires
  pub apart : (σ : Switching) → NoWalk two_wires σ 1 2
  pub incorrect : Correct two_wires → ⊥

pub record LeftIsTheOnlyBadSide : Type 0 where
  pub facts : Facts crossing
  pub left_cyclic : (σ : Switching) → σ 3 ≡ left → OnCycle crossing σ 1
  pub left_apart : (σ : Switching) → σ 3 ≡ left → NoWalk crossing σ 1 2
  pub right_connected : (σ : Switching) → σ 3 ≡ right → Connected crossing σ
  pub right_acyclic : (σ : Switching) → σ 3 ≡ right → AcyclicOver (Kept crossing σ)
  -- the same for rows of sides
  pub row_cyclic : OnCycle crossing (sides_of (0 ∷ 0 ∷ 1 ∷ 0 ∷ [])) 1
  pub row_connected : Connected crossing (sides_of (0 ∷ 0 ∷ 2 ∷ 0 ∷ []))
