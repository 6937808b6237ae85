-- The theorem is shown in proofs/Endings.antt.
use Rattle.sequents.proofs.Endings.{tangled_is_cyclic_lem}
use Rattle.sequents.proofs.tangled_is_cyclic.Goals as goal

pub returns : goal.returns
returns c = tangled_is_cyclic_lem
