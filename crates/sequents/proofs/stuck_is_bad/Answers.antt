-- The theorem is shown in proofs/Choosing.antt.
use Rattle.sequents.proofs.Choosing.{stuck_is_bad_lem}
use Rattle.sequents.proofs.stuck_is_bad.Goals as goal

pub returns : goal.returns
returns c = stuck_is_bad_lem
