-- A step from any rule and any number, for readers that make a step of all they read.
-- Assumes nothing.
use Rattle.std.specs.Prelude.{ℕ, min, max}
use Rattle.std.proofs.Common.{arith}
use Rattle.sinks.specs.Links.{IsLink}
use Rattle.links.specs.declared.rule.Rule.{Rule}
use Rattle.sinks.specs.declared.step.Step.{Step}

-- a number below 1 is read as 1, and one above 256 as 256
abbrev pub nearest : ℕ → ℕ
nearest n = min (max n 1) 256

pub nearest_is_link : (n : ℕ) → IsLink (nearest n)
nearest_is_link n = (omega arith, omega arith)

abbrev pub step_of : Rule → ℕ → Step
step_of r n = record { rule = r; link = nearest n; numbered = nearest_is_link n }
