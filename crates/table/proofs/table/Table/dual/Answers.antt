use Rattle.std.proofs.Common.{true, arith}
use mathlib.Core.Bool.{Bool-set}
use mathlib.Core.Logic.{∥∥₁_elim}
use Rattle.table.proofs.Heights.{no_higher_than_slots}
use Rattle.table.proofs.table.Table.dual.Goals as goal

pub returns : goal.returns
returns c =
    let t = c.args.self.now in
    record {
      value = (
        c.dual_within.ensures.only,
        λ d. ∥∥₁_elim t.facts (Bool-set c.dual_within.result true) (λ f.
            c.dual_within.ensures.all d.0 d.1 d.2 (omega (arith, no_higher_than_slots t.slots.at f c.args.a d.0 d.1, t.long))),
      );
    }
