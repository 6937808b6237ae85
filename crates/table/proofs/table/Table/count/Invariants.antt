-- The count so far is that of the slots before this one.
use Rattle.std.proofs.Common.{◌≡◌, ◌≤◌}
use Rattle.links.specs.Links.{link_at, total, one_if_link}
use Rattle.table.proofs.table.Table.count.Given as goal

abbrev pub invariant-loop-link : goal.invariant-loop-link
invariant-loop-link l = (l.count ≡ total (λ k. one_if_link (link_at l.self.slots.at k)) l.link-index) × (l.count ≤ l.link-index)
