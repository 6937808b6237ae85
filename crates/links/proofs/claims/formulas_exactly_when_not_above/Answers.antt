-- The theorem is shown in proofs/Grounding.antt.
use Rattle.links.proofs.Grounding.{formulas_exactly_when_not_above_lem}
use Rattle.links.proofs.claims.formulas_exactly_when_not_above.Goals as goal

pub returns : goal.returns
returns c = formulas_exactly_when_not_above_lem
