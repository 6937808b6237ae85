-- The theorem is shown in proofs/Samples.antt.
use Rattle.switchings.proofs.Samples.{one_wire_is_correct_lem}
use Rattle.switchings.proofs.one_wire_is_correct.Goals as goal

pub returns : goal.returns
returns c = one_wire_is_correct_lem
