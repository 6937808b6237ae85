use Rattle.std.proofs.Common.{arith}
use Rattle.unify.proofs.Settling.{passes_low}
use Rattle.unify.proofs.marking.Marking.finish.Goals as goal

pub sweeps-smaller : goal.sweeps-smaller
sweeps-smaller c =
    let e = rw c.if-branch.true at c.in_ok-sweep.ensures.marks in
    let k = passes_low c.args.index.now.table.now.slots.at c.sweep.new.self c.args.index.now.table.now.facts e.0 in
    omega (arith, e.1, k)
