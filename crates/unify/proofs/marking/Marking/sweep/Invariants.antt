use Rattle.std.proofs.Common.{◌≡◌, ℕ, ◌<◌}
use Rattle.unify.specs.Markings.{token_of}
use Rattle.unify.specs.Turns.{Quiet}
use Rattle.unify.proofs.marking.Marking.sweep.Given as goal

abbrev pub invariant-loop-n : goal.invariant-loop-n
invariant-loop-n l = (l.self ≡ l.initial.self) × ((k : ℕ) → k < l.n → token_of l.initial.self k ≡ 0 → Quiet l.index.table.now.slots.at l.initial.self k)
