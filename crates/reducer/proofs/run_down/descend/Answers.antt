use Rattle.std.proofs.Common.{◌≡◌, ℕ, suc, ◌-◌, List, sym, subst, arith, rules}
use Rattle.links.specs.declared.link.Link.{Link}
use Rattle.reducer.specs.declared.reduction.Reduction.TheVariants.{SelfCut}
use Rattle.reducer.specs.Reductions.{OnBoard}
use Rattle.reducer.proofs.Reducing.{made_step}
use Rattle.reducer.specs.Descents.{Descends}
use Rattle.reducer.specs.Descents.Descends.{spent, clear, stuck}
use Rattle.reducer.proofs.Descending.{no_refusal, turn}
use Rattle.reducer.proofs.run_down.descend.Goals as goal

pub returns-in_default : goal.returns-in_default
returns-in_default g c = record { steps = λ d. c.loop-made.invariant d 0 c.loop-made.made c.loop-made.table.slots.at c.loop-made.board (omega arith) (clear c.in_default.ensures.answer) }

pub returns-then-eq : goal.returns-then-eq
returns-then-eq g c =
    let e : c.in-Ok.did ≡ SelfCut = search rules in
    let k = subst (OnBoard g.L.Label.op c.in-Some.cut c.loop-made.table.slots.at c.loop-made.board c.reduce.new.table.slots.at c.reduce.new.board) e c.in-Ok.ensures.step.1.1 in
    record {
      steps = λ d. c.loop-made.invariant d 0 c.loop-made.made c.reduce.new.table.slots.at c.reduce.new.board (omega arith) (
          subst (λ (ls : List Link). Descends g.L.Label.op d (c.args.budget - c.loop-made.made) 0 c.loop-made.table.slots.at c.loop-made.board ls c.reduce.new.board) (sym k.1) (
          subst (λ (b : List g.row.L.Denot). Descends g.L.Label.op d (c.args.budget - c.loop-made.made) 0 c.loop-made.table.slots.at c.loop-made.board c.loop-made.table.slots.at b) (sym k.2) (stuck c.in-Some.ensures.answer k.0)));
    }

pub loop-made-preserved : goal.loop-made-preserved
loop-made-preserved g c =
    let k = made_step g.L.Label.op c.in-Some.cut c.loop-made.table.slots.at c.loop-made.board c.reduce.new.table.slots.at c.reduce.new.board c.in-Ok.did (search rules) c.in-Ok.ensures.step.1 in
    λ d i m ls' board' e rest. c.loop-made.invariant d (suc i) m ls' board' (omega arith) (turn g.L.Label.op d c.args.budget c.loop-made.made c.in-Some.cut i c.loop-made-test.true c.in-Some.ensures.answer (k d) rest)

pub returns : goal.returns
returns g c = record { steps = λ d. c.loop-made.invariant d 0 c.args.budget c.loop-made.table.slots.at c.loop-made.board (omega arith) (let z : 0 ≡ c.args.budget - c.loop-made.made = omega arith in subst (λ (b : ℕ). Descends g.L.Label.op d b 0 c.loop-made.table.slots.at c.loop-made.board c.loop-made.table.slots.at c.loop-made.board) z spent) }
