-- The theorem is shown in proofs/Choosing.antt.
use Rattle.sequents.proofs.Choosing.{tree_means_unified_lem}
use Rattle.sequents.proofs.tree_means_unified.Goals as goal

pub returns : goal.returns
returns c = tree_means_unified_lem
