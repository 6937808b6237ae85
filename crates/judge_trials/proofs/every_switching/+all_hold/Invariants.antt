use Rattle.std.proofs.Common.{◌-◌}
use Rattle.judge_trials.proofs.every_switching.+all_hold.Given as goal

abbrev pub decreases-all_hold : goal.decreases-all_hold
decreases-all_hold l = 6 - l.n
