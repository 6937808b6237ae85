-- The theorem is shown in proofs/Drawn.antt.
use Rattle.switchings.proofs.Drawn.{switchings_have_the_same_count_lem}
use Rattle.switchings.proofs.switchings_have_the_same_count.Goals as goal

pub returns : goal.returns
returns c = switchings_have_the_same_count_lem
