-- Small proofs that are written out, to try the definitions on: two lists are sequent proofs, and others are none.
use Rattle.std.specs.Prelude.{List, [], ◌∷◌}
use Rattle.links.specs.declared.link.Link.{Link}
use Rattle.links.specs.declared.link.Link.TheVariants.{Empty, Axiom, Tensor, Par}
use Rattle.links.specs.declared.rule.Rule.TheVariants as rule
use Rattle.sequents.specs.Sequents.{SequentProof, Provable}

-- a wire with a par on its two ends
abbrev pub loop : List Link
loop = Empty ∷ Axiom 1 2 1 ∷ Par 1 2 3 ∷ []

-- two wires with a tensor on their positive ends, and with a par
abbrev pub fork : List Link
fork = Empty ∷ Axiom 1 2 1 ∷ Axiom 3 4 1 ∷ Tensor 1 3 5 ∷ []

abbrev pub gap : List Link
gap = Empty ∷ Axiom 1 2 1 ∷ Axiom 3 4 1 ∷ Par 1 3 5 ∷ []

pub record SmallProofs : Type 0 where
  pub par_after_axiom : SequentProof loop (record { rule = rule.Axiom; link = 1 } ∷ record { rule = rule.Par; link = 2 } ∷ [])
  pub axiom_alone_is_none : SequentProof loop (record { rule = rule.Axiom; link = 1 } ∷ []) → ⊥
  -- the left wire comes first, so that the right one is on top
  pub right_on_top : SequentProof fork (record { rule = rule.Axiom; link = 1 } ∷ record { rule = rule.Axiom; link = 2 } ∷ record { rule = rule.Tensor; link = 3 } ∷ [])
  pub left_on_top_is_none : SequentProof fork (record { rule = rule.Axiom; link = 2 } ∷ record { rule = rule.Axiom; link = 1 } ∷ record { rule = rule.Tensor; link = 3 } ∷ []) → ⊥
  -- a link is named with its own kind
  pub other_kind_is_none : SequentProof fork (record { rule = rule.Axiom; link = 1 } ∷ record { rule = rule.Axiom; link = 2 } ∷ record { rule = rule.Cut; link = 3 } ∷ []) → ⊥
  -- a par does not join two sequents
  pub par_of_two_wires_has_none : Provable gap → ⊥
