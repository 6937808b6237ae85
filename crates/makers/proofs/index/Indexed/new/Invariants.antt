use Rattle.makers.proofs.Gathering.{Gathered}
use Rattle.makers.proofs.index.Indexed.new.Given as goal

abbrev pub invariant-loop-n : goal.invariant-loop-n
invariant-loop-n l = Gathered l.table.slots.at l.by l.n
