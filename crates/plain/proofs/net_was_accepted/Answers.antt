-- The theorem is shown in proofs/Lawfulness.antt.
use Rattle.plain.proofs.Lawfulness.{net_since}
use Rattle.plain.proofs.net_was_accepted.Goals as goal

pub returns : goal.returns
returns g c = net_since
