-- The theorem is shown in proofs/Unifying.antt.
use Rattle.sequents.proofs.Unifying.{correct_exactly_when_provable_lem}
use Rattle.sequents.proofs.correct_exactly_when_provable.Goals as goal

pub returns : goal.returns
returns c = correct_exactly_when_provable_lem
