-- The theorem is shown in proofs/Samples.antt.
use Rattle.sequents.proofs.Samples.{small_proofs_lem}
use Rattle.sequents.proofs.small_proofs.Goals as goal

pub returns : goal.returns
returns c = small_proofs_lem
