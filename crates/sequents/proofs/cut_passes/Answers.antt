-- The theorem is shown in proofs/Passing.antt.
use Rattle.sequents.proofs.Passing.{cut_passes_lem}
use Rattle.sequents.proofs.cut_passes.Goals as goal

pub returns : goal.returns
returns c = cut_passes_lem
