-- The theorem is shown in proofs/Samples.antt.
use Rattle.switchings.proofs.Samples.{tensor_on_one_wire_is_cyclic_lem}
use Rattle.switchings.proofs.tensor_on_one_wire_is_cyclic.Goals as goal

pub returns : goal.returns
returns c = tensor_on_one_wire_is_cyclic_lem
