use Rattle.std.proofs.Common.{◌-◌}
use Rattle.unify.specs.Markings.{Means}
use Rattle.unify.proofs.marking.Marking.finish.Given as goal

abbrev pub invariant-sweeps : goal.invariant-sweeps
invariant-sweeps l = Means l.index.table.now.slots.at l.self

abbrev pub decreases-sweeps : goal.decreases-sweeps
decreases-sweeps l = 256 - l.self.passes
