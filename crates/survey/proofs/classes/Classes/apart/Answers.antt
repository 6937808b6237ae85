use Rattle.std.proofs.Common.{◌≡◌, rules}
use Rattle.makers.proofs.Rows.{made_each}
use Rattle.survey.proofs.classes.Classes.apart.Goals as goal

pub returns : goal.returns
returns c = record { items = made_each (λ k x. x ≡ k) (λ k x q e. search rules) c.from_fn.ensures.items }
