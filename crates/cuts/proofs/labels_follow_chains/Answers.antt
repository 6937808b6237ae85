-- The theorem is shown in proofs/Chaining.antt.
use Rattle.cuts.proofs.Chaining.{labels_along_chains}
use Rattle.cuts.proofs.labels_follow_chains.Goals as goal

pub returns : goal.returns
returns g c = labels_along_chains _
