use Rattle.table.proofs.Occurrences.{cut_checked}
use Rattle.table.proofs.numbers.check_cut.Goals as goal

pub returns : goal.returns
returns c = record { answer = cut_checked c.args.n c.args.left c.args.right c.check_occurrences.result c.check_occurrences.ensures.answer }
