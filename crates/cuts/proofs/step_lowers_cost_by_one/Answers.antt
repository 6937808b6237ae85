-- The theorem is shown in proofs/Costing.antt.
use Rattle.cuts.proofs.Costing.{step_lowers_cost}
use Rattle.cuts.proofs.step_lowers_cost_by_one.Goals as goal

pub returns : goal.returns
returns g c = step_lowers_cost _
