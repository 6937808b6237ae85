-- The theorem is shown in proofs/Lawfulness.antt.
use Rattle.plain.proofs.Lawfulness.{the_law}
use Rattle.plain.proofs.every_run_is_lawful.Goals as goal

pub returns : goal.returns
returns g c = the_law _
