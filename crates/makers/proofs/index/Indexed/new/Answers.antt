use Rattle.std.proofs.Common.{arith}
use Rattle.makers.proofs.Gathering.{none_gathered, axiom_gathered, one_gathered, nothing_gathered, all_gathered}
use Rattle.makers.proofs.index.Indexed.new.Goals as goal
use Rattle.makers.proofs.index.Indexed.new.Goals.{in-Axiom, in-Empty, in-Tensor2}

pub loop-n-init : goal.loop-n-init
loop-n-init c = none_gathered c.args.table.now.slots.at

pub loop-n-preserved : goal.loop-n-preserved
loop-n-preserved c =
    let ls = c.args.table.now.slots.at in
    let by = c.loop-n.by in
    let n = c.loop-n.n in
    let m = c.loop-n.invariant in
    elim c.match-link.branch [
      | in-Axiom w ↦ rw w.by-is (axiom_gathered ls by n m w.in-Axiom.positive w.in-Axiom.negative w.in-Axiom.atom w.in-Axiom.is)
      | in-Empty w ↦ rw w.by-is (nothing_gathered ls by n m w.in-Empty.is)
      | in-Tensor2 w ↦ rw w.by-is (one_gathered ls by n m w.in-Tensor.conclusion w.in-Tensor.is)
    ]

pub invariant_of-result : goal.invariant_of-result
invariant_of-result c = record { long = c.loop-n.invariant.long; made = all_gathered c.args.table.now.slots.at c.args.table.now.facts c.args.table.now.long c.loop-n.by c.loop-n.n (omega arith) c.loop-n.invariant }
