-- The theorem is shown in proofs/Choosing.antt.
use Rattle.sequents.proofs.Choosing.{correct_means_unified_lem}
use Rattle.sequents.proofs.correct_means_unified.Goals as goal

pub returns : goal.returns
returns c = correct_means_unified_lem
