use Rattle.table.proofs.table.Table.+dual_within.Given as goal

abbrev pub decreases-dual_within : goal.decreases-dual_within
decreases-dual_within l = l.fuel
