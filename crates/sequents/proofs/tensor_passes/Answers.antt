-- The theorem is shown in proofs/Passing.antt.
use Rattle.sequents.proofs.Passing.{tensor_passes_lem}
use Rattle.sequents.proofs.tensor_passes.Goals as goal

pub returns : goal.returns
returns c = tensor_passes_lem
