-- The theorem is shown in proofs/Pinning.antt.
use Rattle.plain.proofs.Pinning.{pinned}
use Rattle.plain.proofs.outcomes_agree.Goals as goal

pub returns : goal.returns
returns g c = pinned
