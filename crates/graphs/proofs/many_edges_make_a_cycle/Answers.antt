-- The theorem is shown in proofs/Trees.antt.
use Rattle.graphs.proofs.Trees.{many_edges_make_a_cycle_lem}
use Rattle.graphs.proofs.many_edges_make_a_cycle.Goals as goal

pub returns : goal.returns
returns c = many_edges_make_a_cycle_lem
