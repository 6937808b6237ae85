use Rattle.std.proofs.Common.{rules}
use Rattle.refusals.specs.declared.refusal.Refusal.TheVariants.{NoSuchLink, ConclusionUsed}
use Rattle.refusals.proofs.Refusing.{none_on, none_other}
use Rattle.table.proofs.table.Table.check_leave.Goals as goal

pub returns : goal.returns
returns c = record { answer = none_on NoSuchLink (search rules) (none_on ConclusionUsed (search rules) none_other) }
