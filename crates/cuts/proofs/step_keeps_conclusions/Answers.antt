-- The theorem is shown in proofs/Forms.antt.
use Rattle.cuts.proofs.Forms.{conclusions}
use Rattle.cuts.proofs.step_keeps_conclusions.Goals as goal

pub returns : goal.returns
returns g c = conclusions _
