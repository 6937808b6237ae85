-- The theorem is shown in proofs/Chaining.antt.
use Rattle.cuts.proofs.Chaining.{step_keeps_labels_lem}
use Rattle.cuts.proofs.step_keeps_labels.Goals as goal

pub returns : goal.returns
returns g c = step_keeps_labels_lem _
