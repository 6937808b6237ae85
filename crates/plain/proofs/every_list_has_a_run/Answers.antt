-- The theorem is shown in proofs/Outcomes.antt.
use Rattle.plain.proofs.Outcomes.{every_list}
use Rattle.plain.proofs.every_list_has_a_run.Goals as goal

pub returns : goal.returns
returns g c = every_list
