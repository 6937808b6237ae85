-- The theorem is shown in proofs/CorrectKept.antt.
use Rattle.cuts.proofs.CorrectKept.{step_keeps_correct_lem}
use Rattle.cuts.proofs.step_keeps_correct.Goals as goal

pub returns : goal.returns
returns g c = step_keeps_correct_lem _
