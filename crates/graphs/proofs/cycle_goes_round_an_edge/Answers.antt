-- The theorem is shown in proofs/Cycles.antt.
use Rattle.graphs.proofs.Cycles.{cycle_goes_round_an_edge_lem}
use Rattle.graphs.proofs.cycle_goes_round_an_edge.Goals as goal

pub returns : goal.returns
returns c = cycle_goes_round_an_edge_lem
