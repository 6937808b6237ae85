-- The theorem is shown in proofs/Trees.antt.
use Rattle.graphs.proofs.Trees.{tree_has_one_edge_less_lem}
use Rattle.graphs.proofs.tree_has_one_edge_less.Goals as goal

pub returns : goal.returns
returns c = tree_has_one_edge_less_lem
