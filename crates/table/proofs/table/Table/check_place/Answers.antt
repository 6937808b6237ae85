use Rattle.std.proofs.Common.{rules}
use Rattle.table.proofs.Placing.{ends_checked}
use Rattle.table.proofs.table.Table.check_place.Goals as goal

pub returns : goal.returns
returns c = record { answer = ends_checked c.args.self.now.slots.at c.args.n c.args.link (search rules) c.check_ends.result c.check_ends.ensures.answer }
