-- The theorem is shown in proofs/Stepping.antt.
use Rattle.cuts.proofs.Stepping.{steps_keep_lem}
use Rattle.cuts.proofs.steps_keep.Goals as goal

pub returns : goal.returns
returns g c = steps_keep_lem _
