-- The theorem is shown in proofs/Drawn.antt.
use Rattle.switchings.proofs.Drawn.{points_are_listed_lem}
use Rattle.switchings.proofs.points_are_listed.Goals as goal

pub returns : goal.returns
returns c = points_are_listed_lem
