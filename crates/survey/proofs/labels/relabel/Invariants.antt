use Rattle.std.proofs.Common.{◌≡◌, ℕ, ◌<◌, ◌≤◌, get_or}
use Rattle.graphs.specs.Classes.{relabelled}
use Rattle.survey.proofs.labels.relabel.Given as goal

abbrev pub invariant-loop-label : goal.invariant-loop-label
invariant-loop-label l = ((k : ℕ) → k < l.label-index → get_or l.labels k 0 ≡ relabelled l.new l.old (get_or l.initial.labels k 0)) × ((k : ℕ) → l.label-index ≤ k → get_or l.labels k 0 ≡ get_or l.initial.labels k 0)
