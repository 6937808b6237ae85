-- The theorem is shown in proofs/Outcomes.antt.
use Rattle.plain.proofs.Outcomes.{one_end}
use Rattle.plain.proofs.runs_of_one_list_end_alike.Goals as goal

pub returns : goal.returns
returns g c = one_end
