-- The theorem is shown in proofs/Stepping.antt.
use Rattle.cuts.proofs.Stepping.{cut_has_step}
use Rattle.cuts.proofs.cut_of_correct_has_step.Goals as goal

pub returns : goal.returns
returns g c = cut_has_step _
