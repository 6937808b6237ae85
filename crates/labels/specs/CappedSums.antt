-- Sums held at a cap are associative, whatever the cap.
-- Assumes nothing.
use Rattle.std.specs.Prelude.{◌≡◌, ℕ}
use Rattle.std.proofs.Common.{arith}
use Rattle.labels.specs.Delays.{capped_sum}

pub capped_sum_assoc : (cap x y z : ℕ) → capped_sum cap (capped_sum cap x y) z ≡ capped_sum cap x (capped_sum cap y z)
capped_sum_assoc cap x y z = omega arith
