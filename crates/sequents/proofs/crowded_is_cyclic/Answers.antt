-- The theorem is shown in proofs/Endings.antt.
use Rattle.sequents.proofs.Endings.{crowded_is_cyclic_lem}
use Rattle.sequents.proofs.crowded_is_cyclic.Goals as goal

pub returns : goal.returns
returns c = crowded_is_cyclic_lem
