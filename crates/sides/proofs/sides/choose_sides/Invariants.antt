use Rattle.std.proofs.Common.{◌≡◌, ℕ, ◌+◌, ◌<◌, length, get_or}
use Rattle.sides.specs.Rule.{SideAt}
use Rattle.sides.proofs.sides.choose_sides.Given as goal

abbrev pub invariant-loop-i : goal.invariant-loop-i
invariant-loop-i l = (length l.side-items ≡ 256) × ((j : ℕ) → j < l.i → SideAt l.marked.index.table.now.slots.at l.marked.tokens.now l.avoided (j + 1) (get_or l.side-items j 0))
