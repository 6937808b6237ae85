-- The theorem is shown in proofs/Outcomes.antt.
use Rattle.plain.proofs.Outcomes.{some_outcome}
use Rattle.plain.proofs.every_call_has_an_outcome.Goals as goal

pub returns : goal.returns
returns g c = some_outcome
