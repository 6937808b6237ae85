-- The theorem is shown in proofs/Passing.antt.
use Rattle.sequents.proofs.Passing.{par_passes_lem}
use Rattle.sequents.proofs.par_passes.Goals as goal

pub returns : goal.returns
returns c = par_passes_lem
