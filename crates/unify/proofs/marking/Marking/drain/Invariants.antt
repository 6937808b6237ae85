use Rattle.std.proofs.Common.{◌+◌, ◌-◌, ◌*◌, length}
use Rattle.stack.specs.Stacks.{entries}
use Rattle.unify.specs.Markings.{Means}
use Rattle.unify.proofs.marking.Marking.drain.Given as goal

abbrev pub invariant-work : goal.invariant-work
invariant-work l = Means l.index.table.now.slots.at l.self

abbrev pub decreases-work : goal.decreases-work
decreases-work l = (256 - l.self.passes) * 2 + length (entries l.ready)
