-- The theorem is shown in proofs/Downward.antt.
use Rattle.cuts.proofs.Downward.{run_down_counts_lem}
use Rattle.cuts.proofs.run_down_counts.Goals as goal

pub returns : goal.returns
returns g c = run_down_counts_lem _
