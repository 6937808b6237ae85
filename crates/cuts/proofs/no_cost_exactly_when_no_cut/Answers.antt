-- The theorem is shown in proofs/Costing.antt.
use Rattle.cuts.proofs.Costing.{no_cost}
use Rattle.cuts.proofs.no_cost_exactly_when_no_cut.Goals as goal

pub returns : goal.returns
returns c = no_cost
