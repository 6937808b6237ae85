use Rattle.switchings.specs.Rows.{sides_of}
use Rattle.survey.proofs.Surveying.{Taken}
use Rattle.survey.proofs.survey.survey.Given as goal

abbrev pub invariant-loop-n : goal.invariant-loop-n
invariant-loop-n l = Taken l.index.table.now.slots.at (sides_of l.sides) l.classes.labels l.n
