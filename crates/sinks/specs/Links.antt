-- Which numbers are numbers of links.
-- Assumes nothing.
use Rattle.std.specs.Prelude.{ℕ, ◌≤◌}

abbrev pub IsLink : ℕ → Type 0
IsLink n = (1 ≤ n) × (n ≤ 256)
