-- The theorem is shown in proofs/Unifying.antt.
use Rattle.sequents.proofs.Unifying.{provable_or_bad_lem}
use Rattle.sequents.proofs.provable_or_bad.Goals as goal

pub returns : goal.returns
returns c = provable_or_bad_lem
