-- The theorem is shown in proofs/Samples.antt.
use Rattle.graphs.proofs.Samples.{small_graphs_lem}
use Rattle.graphs.proofs.small_graphs.Goals as goal

pub returns : goal.returns
returns c = small_graphs_lem
