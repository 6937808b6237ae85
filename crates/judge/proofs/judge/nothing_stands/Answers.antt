use Rattle.judge.proofs.Grounds.{nothing_stands_at_zero}
use Rattle.judge.proofs.judge.nothing_stands.Goals as goal

pub returns : goal.returns
returns c = record { value = nothing_stands_at_zero c.args.table.now.slots.at c.count.result c.count.ensures.value }
