-- A tenth of the number is less than it.
use Rattle.line.proofs.build.+width.Given as goal

abbrev pub decreases-width : goal.decreases-width
decreases-width l = l.n
