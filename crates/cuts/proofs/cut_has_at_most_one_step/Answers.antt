-- The theorem is shown in proofs/Stepping.antt.
use Rattle.cuts.proofs.Stepping.{one_step}
use Rattle.cuts.proofs.cut_has_at_most_one_step.Goals as goal

pub returns : goal.returns
returns g c = one_step _
