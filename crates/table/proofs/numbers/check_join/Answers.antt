use Rattle.table.proofs.Occurrences.{join_checked}
use Rattle.table.proofs.numbers.check_join.Goals as goal

pub returns : goal.returns
returns c = record { answer = join_checked c.args.n c.args.left c.args.right c.args.conclusion c.check_occurrences.result c.check_occurrences.ensures.answer }
