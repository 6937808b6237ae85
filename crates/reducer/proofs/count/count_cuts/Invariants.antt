-- The count so far is that of the slots before this one.
use Rattle.std.proofs.Common.{◌≡◌, ◌≤◌}
use Rattle.links.specs.Links.{link_at, total, one_if_cut}
use Rattle.reducer.proofs.count.count_cuts.Given as goal

abbrev pub invariant-loop-link : goal.invariant-loop-link
invariant-loop-link l = (l.count ≡ total (λ k. one_if_cut (link_at l.table.slots.at k)) l.link-index) × (l.count ≤ l.link-index)
