-- The theorem is shown in proofs/Endings.antt.
use Rattle.sequents.proofs.Endings.{cut_off_is_apart_lem}
use Rattle.sequents.proofs.cut_off_is_apart.Goals as goal

pub returns : goal.returns
returns c = cut_off_is_apart_lem
