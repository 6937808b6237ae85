-- Delays and their composition. The cap stands here and nowhere else in specs/ and proofs/.
-- Assumes nothing.
use Rattle.std.specs.Prelude.{ℕ, ◌+◌, min}
use Rattle.labels.specs.declared.delay.Delay.{Delay}

-- no delay is longer, in nanoseconds
abbrev pub longest : ℕ
longest = 4294967295

-- the sum of two numbers, held at a cap
abbrev pub capped_sum : ℕ → ℕ → ℕ → ℕ
capped_sum cap x y = min (x + y) cap

-- first, and after it second
abbrev pub in_turn : Delay → Delay → Delay
in_turn first second = record { nanos = capped_sum longest first.nanos second.nanos }
