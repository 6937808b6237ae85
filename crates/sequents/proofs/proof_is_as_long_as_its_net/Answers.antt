-- The theorem is shown in proofs/Playing.antt.
use Rattle.sequents.proofs.Playing.{proof_is_as_long_as_its_net_lem}
use Rattle.sequents.proofs.proof_is_as_long_as_its_net.Goals as goal

pub returns : goal.returns
returns c = proof_is_as_long_as_its_net_lem
