-- The theorem is shown in proofs/Crossing.antt.
use Rattle.switchings.proofs.Crossing.{left_is_the_only_bad_side_lem}
use Rattle.switchings.proofs.left_is_the_only_bad_side.Goals as goal

pub returns : goal.returns
returns c = left_is_the_only_bad_side_lem
