-- The theorem is shown in proofs/Cycles.antt.
use Rattle.graphs.proofs.Cycles.{loops_make_no_cycle_lem}
use Rattle.graphs.proofs.loops_make_no_cycle.Goals as goal

pub returns : goal.returns
returns c = loops_make_no_cycle_lem
