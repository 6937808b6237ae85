-- The theorem is shown in proofs/Drawn.antt.
use Rattle.switchings.proofs.Drawn.{correct_by_count_lem}
use Rattle.switchings.proofs.correct_by_count.Goals as goal

pub returns : goal.returns
returns c = correct_by_count_lem
