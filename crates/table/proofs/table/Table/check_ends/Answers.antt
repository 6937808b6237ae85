use Rattle.std.proofs.Common.{rules}
use Rattle.table.proofs.Placing.{join_ends}
use Rattle.table.proofs.table.Table.check_ends.Goals as goal

pub returns-else-stands-3 : goal.returns-else-stands-3
returns-else-stands-3 c = let e = c.in-Tensor in record { answer = join_ends c.args.self.now.slots.at c.args.link e.left e.right e.conclusion e.is (search rules) c.check_premises-in-Tensor.result c.check_premises-in-Tensor.ensures.answer }
