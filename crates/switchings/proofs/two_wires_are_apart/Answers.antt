-- The theorem is shown in proofs/Samples.antt.
use Rattle.switchings.proofs.Samples.{two_wires_are_apart_lem}
use Rattle.switchings.proofs.two_wires_are_apart.Goals as goal

pub returns : goal.returns
returns c = two_wires_are_apart_lem
