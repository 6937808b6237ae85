-- A step is its rule and its link, and the nearest link to a link is that link.
-- Assumes nothing.
use Rattle.std.proofs.Common.{◌≡◌, ◌≤◌, refl, arith}
use mathlib.Core.HLevel.{is_prop→PathP}
use native.Mathlib.Bridge.{le_prop}
use Rattle.sinks.specs.Steps.{step_of, nearest}
use Rattle.sinks.specs.declared.step.Step.{Step}

same_step : (a b : Step) → a.rule ≡ b.rule → a.link ≡ b.link → a ≡ b
same_step a b p q = λ j. record {
  rule = p j;
  link = q j;
  numbered = (is_prop→PathP (λ k. 1 ≤ q k) (λ k. le_prop) a.numbered.0 b.numbered.0 j, is_prop→PathP (λ k. q k ≤ 256) (λ k. le_prop) a.numbered.1 b.numbered.1 j);
}

pub step_of_is : (s : Step) → step_of s.rule s.link ≡ s
step_of_is s =
    let link : nearest s.link ≡ s.link = omega (arith, s.numbered) in
    same_step (step_of s.rule s.link) s refl link
