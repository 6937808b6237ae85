-- The theorem is shown in proofs/Cycles.antt.
use Rattle.graphs.proofs.Cycles.{cycle_repeats_nothing_lem}
use Rattle.graphs.proofs.cycle_repeats_nothing.Goals as goal

pub returns : goal.returns
returns c = cycle_repeats_nothing_lem
