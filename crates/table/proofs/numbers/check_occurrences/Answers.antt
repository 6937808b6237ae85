use Rattle.std.proofs.Common.{rules}
use Rattle.refusals.specs.declared.refusal.Refusal.TheVariants.{LinkRange, OccurrenceRange, EqualOccurrences}
use Rattle.refusals.proofs.Refusing.{none_on, none_other}
use Rattle.table.proofs.numbers.check_occurrences.Goals as goal

pub returns : goal.returns
returns c = record { answer = none_on LinkRange (search rules) (none_on OccurrenceRange (search rules) (none_on EqualOccurrences (search rules) none_other)) }
