use Rattle.table.proofs.Listing.{ListedBelow}
use Rattle.table.proofs.table.Table.conclusions.Given as goal

abbrev pub invariant-loop-o : goal.invariant-loop-o
invariant-loop-o l = ListedBelow l.self.slots.at l.initial.row l.row l.o l.count
