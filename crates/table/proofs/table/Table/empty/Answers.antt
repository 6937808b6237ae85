use Rattle.std.proofs.Common.{replicate}
use Rattle.links.specs.declared.link.Link.TheVariants.{Empty}
use Rattle.links.proofs.Keeping.{nothing_stands, empty_facts}
use Rattle.table.proofs.table.Table.empty.Goals as goal

pub invariant_of-result-clause-facts : goal.invariant_of-result-clause-facts
invariant_of-result-clause-facts c = ∣ empty_facts (replicate 257 Empty) (nothing_stands 257) ∣₁
