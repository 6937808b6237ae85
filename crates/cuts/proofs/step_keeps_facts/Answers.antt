-- The theorem is shown in proofs/FactsKept.antt.
use Rattle.cuts.proofs.FactsKept.{step_keeps_facts_lem}
use Rattle.cuts.proofs.step_keeps_facts.Goals as goal

pub returns : goal.returns
returns g c = step_keeps_facts_lem _
