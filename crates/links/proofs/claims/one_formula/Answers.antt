-- The theorem is shown in proofs/Grounding.antt.
use Rattle.links.proofs.Grounding.{one_formula_each}
use Rattle.links.proofs.claims.one_formula.Goals as goal

pub returns : goal.returns
returns c = one_formula_each
