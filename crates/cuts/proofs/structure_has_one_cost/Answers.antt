-- The theorem is shown in proofs/Costing.antt.
use Rattle.cuts.proofs.Costing.{one_cost}
use Rattle.cuts.proofs.structure_has_one_cost.Goals as goal

pub returns : goal.returns
returns c = one_cost
