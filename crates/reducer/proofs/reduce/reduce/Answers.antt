use Rattle.std.proofs.Common.{subst, arith}
use Rattle.reducer.specs.declared.reduction.Reduction.TheVariants.{Joined}
use Rattle.reducer.specs.Reductions.{StepOfLinks}
use Rattle.reducer.proofs.Reducing.{numbered, junction, step_by_joining, step_otherwise, none_with_board}
use Rattle.reducer.proofs.reduce.reduce.Goals as goal

pub compose_labels-requires : goal.compose_labels-requires
compose_labels-requires g c =
    let t = c.args.table.now in
    let s : StepOfLinks t.slots.at c.reduce_links.new.self.slots.at c.args.n (Joined c.in-Joined.first c.in-Joined.second) = subst (StepOfLinks t.slots.at c.reduce_links.new.self.slots.at c.args.n) c.in-Joined.is c.in_ok-did.ensures.links.1 in
    let j = junction s in
    record {
      long = omega arith;
      first = numbered t.slots.at t.facts c.in-Joined.first j.p j.q j.a j.wires.first;
      second = numbered t.slots.at t.facts c.in-Joined.second j.p₂ j.q₂ j.a₂ j.wires.second;
    }

pub returns-in-Joined : goal.returns-in-Joined
returns-in-Joined g c =
    let t = c.args.table.now in
    let s : StepOfLinks t.slots.at c.reduce_links.new.self.slots.at c.args.n (Joined c.in-Joined.first c.in-Joined.second) = subst (StepOfLinks t.slots.at c.reduce_links.new.self.slots.at c.args.n) c.in-Joined.is c.in_ok-did.ensures.links.1 in
    record { step = (none_with_board t.slots.at c.args.board.now c.args.n (omega arith) c.in_ok-did.ensures.links.0, (s, step_by_joining g.L.Label.op c.args.board.now c.compose_labels.new.board s c.compose_labels.ensures.board)) }

pub returns-in_default : goal.returns-in_default
returns-in_default g c =
    let done = c.in_ok-did.ensures.links in
    record { step = (none_with_board c.args.table.now.slots.at c.args.board.now c.args.n (omega arith) done.0, (done.1, step_otherwise g.L.Label.op c.args.board.now c.in_ok-did.did c.in_default.not-Joined done.1)) }
