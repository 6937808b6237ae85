use Rattle.std.proofs.Common.{arith}
use Rattle.std.proofs.lemmas.Bool.{both_ways}
use Rattle.refusals.specs.declared.refusal.Refusal.TheVariants.{TooShort, NothingStands}
use Rattle.refusals.proofs.Refusing.{none_on, none_other}
use Rattle.judge.proofs.judge.check.Goals as goal

pub returns : goal.returns
returns c = record { answer = none_on TooShort (λ h. omega arith) (none_on NothingStands (λ all. both_ways c.nothing_stands.result c.if-nothing_stands.false (c.nothing_stands.ensures.value.1 all)) none_other) }
