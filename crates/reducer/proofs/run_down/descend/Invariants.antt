use Rattle.std.proofs.Common.{◌≡◌, ℕ, ◌+◌, ◌-◌, List}
use Rattle.links.specs.declared.link.Link.{Link}
use Rattle.reducer.specs.Descents.{Descends}
use Rattle.reducer.proofs.run_down.descend.Given as goal

-- what comes after the steps made so far is what comes after them from the start
abbrev pub invariant-loop-made : goal.invariant-loop-made
invariant-loop-made g l = (d : g.row.L.Denot) (k m : ℕ) (ls' : List Link) (board' : List g.row.L.Denot) → m ≡ l.made + k → Descends g.L.Label.op d (l.budget - l.made) k l.table.slots.at l.board ls' board' → Descends g.L.Label.op d l.budget m l.initial.table.slots.at l.initial.board ls' board'
