-- The theorem is shown in proofs/Trees.antt.
use Rattle.graphs.proofs.Trees.{few_edges_leave_a_gap_lem}
use Rattle.graphs.proofs.few_edges_leave_a_gap.Goals as goal

pub returns : goal.returns
returns c = few_edges_leave_a_gap_lem
