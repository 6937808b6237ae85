-- The theorem is shown in proofs/Grounding.antt.
use Rattle.links.proofs.Grounding.{dual_of_dual_same}
use Rattle.links.proofs.claims.dual_of_dual.Goals as goal

pub returns : goal.returns
returns c = dual_of_dual_same
