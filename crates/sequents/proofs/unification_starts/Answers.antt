-- The theorem is shown in proofs/Beginning.antt.
use Rattle.sequents.proofs.Beginning.{unification_starts_lem}
use Rattle.sequents.proofs.unification_starts.Goals as goal

pub returns : goal.returns
returns c = unification_starts_lem
