-- A record is read back as its step, whatever follows it, and has six bytes.
-- Assumes nothing.
use Rattle.std.proofs.Common.{◌≡◌, ℕ, ◌+◌, ◌*◌, ◌/◌, ◌%◌, ◌≤◌, List, length, arith, ◌∷◌, ◌++◌, refl, ap}
use native.Mathlib.Nat.{mod-add-div}
use Rattle.tape.specs.Records.{kind_of, of_kind, record_of_lem, tape_steps}
use Rattle.links.specs.declared.rule.Rule.{Rule}
use Rattle.links.specs.declared.rule.Rule.TheVariants.{Axiom, Tensor, Par, Cut}
use Rattle.sinks.specs.declared.step.Step.{Step}
use Rattle.sinks.specs.Spellings.{ReadBack}
use Rattle.sinks.proofs.StepValues.{step_of_is}

kind_read : (r : Rule) → of_kind (kind_of r) ≡ r
kind_read Axiom = refl
kind_read Tensor = refl
kind_read Par = refl
kind_read Cut = refl

link_read : (n : ℕ) → n % 256 + 256 * (n / 256) ≡ n
link_read n = mod-add-div n 256

record_read : (s : Step) (rest : List ℕ) → tape_steps (record_of_lem s ++ rest) ≡ s ∷ tape_steps rest
record_read s rest = ap (λ x. x ∷ tape_steps rest) (simp (kind_read, link_read) (step_of_is s))

pub tape_read_back : ReadBack record_of_lem tape_steps
tape_read_back = record { none = refl; one = record_read }

pub record_short : (s : Step) → length (record_of_lem s) ≤ 6
record_short s = omega arith
