-- The records of a tape, and what any bytes say when they are read as a tape.
-- Assumes nothing.
use Rattle.std.specs.Prelude.{ℕ, ◌+◌, ◌*◌, ◌/◌, ◌%◌, cond, List, [], ◌∷◌, ◌==◌}
use Rattle.sinks.specs.Steps.{step_of}
use Rattle.links.specs.declared.rule.Rule.{Rule}
use Rattle.links.specs.declared.rule.Rule.TheVariants.{Axiom, Tensor, Par, Cut}
use Rattle.sinks.specs.declared.step.Step.{Step}

-- the kinds of records that name a rule
abbrev pub kind_of : Rule → ℕ
kind_of Axiom = 17
kind_of Tensor = 18
kind_of Par = 19
kind_of Cut = 20

-- body length, kind and body, which is the link: each in two bytes, the low one first
abbrev pub record_of_lem : Step → List ℕ
record_of_lem s = 2 ∷ 0 ∷ kind_of s.rule ∷ 0 ∷ (s.link % 256) ∷ (s.link / 256) ∷ []

-- what is no other rule's kind is read as a cut's
abbrev pub of_kind : ℕ → Rule
of_kind k = cond (k == 17) Axiom (cond (k == 18) Tensor (cond (k == 19) Par Cut))

-- the steps that any bytes say, one for each six; fewer than six at the end say nothing
abbrev pub tape_steps : List ℕ → List Step
tape_steps (a ∷ b ∷ c ∷ d ∷ e ∷ f ∷ rest) = step_of (of_kind c) (e + 256 * f) ∷ tape_steps rest
tape_steps [] = []
tape_steps (a ∷ []) = []
tape_steps (a ∷ b ∷ []) = []
tape_steps (a ∷ b ∷ c ∷ []) = []
tape_steps (a ∷ b ∷ c ∷ d ∷ []) = []
tape_steps (a ∷ b ∷ c ∷ d ∷ e ∷ []) = []
