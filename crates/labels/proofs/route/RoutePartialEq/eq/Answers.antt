-- Two codes mean one route just where they have one remainder by 24.
-- Assumes nothing.
use Rattle.std.proofs.Common.{◌%◌, refl}
use Rattle.std.proofs.lemmas.Bool.{eqb-true, eq-eqb}
use Rattle.labels.specs.RouteTable.{same_lanes, same_code}
use Rattle.labels.proofs.route.RoutePartialEq.eq.Goals as goal

pub returns : goal.returns
returns c =
    let a = c.args.self.now in
    let b = c.args.other.now in
    record { answer = (λ t. same_lanes a b (eqb-true (a.code % 24) (b.code % 24) t), λ e. eq-eqb (a.code % 24) (b.code % 24) (same_code a b e)); value = refl }
