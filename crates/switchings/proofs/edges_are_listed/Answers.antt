-- The theorem is shown in proofs/Listed.antt.
use Rattle.switchings.proofs.Listed.{edges_are_listed_lem}
use Rattle.switchings.proofs.edges_are_listed.Goals as goal

pub returns : goal.returns
returns c = edges_are_listed_lem
