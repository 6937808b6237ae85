-- The theorem is shown in proofs/Listed.antt.
use Rattle.switchings.proofs.Listed.{switchings_are_graphs_lem}
use Rattle.switchings.proofs.switchings_are_graphs.Goals as goal

pub returns : goal.returns
returns c = switchings_are_graphs_lem
