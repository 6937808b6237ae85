-- The theorem is shown in proofs/Trees.antt.
use Rattle.graphs.proofs.Trees.{tree_has_no_cycle_lem}
use Rattle.graphs.proofs.tree_has_no_cycle.Goals as goal

pub returns : goal.returns
returns c = tree_has_no_cycle_lem
