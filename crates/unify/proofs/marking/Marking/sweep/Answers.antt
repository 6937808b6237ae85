use Rattle.std.proofs.Common.{arith}
use Rattle.unify.proofs.Quieting.{still_all}
use Rattle.unify.proofs.marking.Marking.sweep.Goals as goal

pub returns : goal.returns
returns c = record { marks = (c.loop-n.invariant.0, still_all c.args.index.now.table.now.slots.at c.args.self.now c.loop-n.n c.args.index.now.table.now.facts (omega arith) c.loop-n.invariant.1) }
