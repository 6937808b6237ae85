use Rattle.std.proofs.Common.{rules}
use Rattle.makers.proofs.Gathering.{maker_low}
use Rattle.makers.proofs.index.Indexed.maker.Goals as goal

pub returns-clause-low : goal.returns-clause-low
returns-clause-low c = maker_low c.args.self.now.table.now.slots.at c.args.self.now.table.now.facts c.args.o c.unwrap_or.result (search rules)
