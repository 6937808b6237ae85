use Rattle.std.proofs.Common.{arith}
use Rattle.refusals.specs.declared.refusal.Refusal.TheVariants.{TooShort}
use Rattle.refusals.proofs.Refusing.{none_on, none_other}
use Rattle.reducer.proofs.Descending.{correctly}
use Rattle.reducer.proofs.run_down.run_down.Goals as goal

pub returns : goal.returns
returns g c =
    record {
      steps = (
        none_on TooShort (λ short. omega arith) none_other,
        record {
          steps = c.descend-made.ensures.steps;
          correctly = λ f H d. correctly g.L.Label.op d (c.descend-made.ensures.steps d) f H;
          left = c.count_cuts-left.ensures.value;
        },
      );
    }
