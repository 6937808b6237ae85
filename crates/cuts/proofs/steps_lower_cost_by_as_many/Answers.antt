-- The theorem is shown in proofs/Costing.antt.
use Rattle.cuts.proofs.Costing.{steps_lower_cost}
use Rattle.cuts.proofs.steps_lower_cost_by_as_many.Goals as goal

pub returns : goal.returns
returns g c = steps_lower_cost _
