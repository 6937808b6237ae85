use Rattle.std.proofs.Common.{arith}
use Rattle.unify.proofs.Settling.{passes_low}
use Rattle.unify.proofs.Readiness.{popped_one_less, pushed_one_more}
use Rattle.unify.proofs.marking.Marking.drain.Goals as goal

pub work-smaller-in-Some : goal.work-smaller-in-Some
work-smaller-in-Some c =
    let e = rw c.if-branch.true at c.in_ok-pass.ensures.marks in
    let k = passes_low c.args.index.now.table.now.slots.at c.pass.new.self c.args.index.now.table.now.facts e.0 in
    let p = popped_one_less c.in-Some.n c.work.ready c.pop.new.self c.in-Some.ensures.answer in
    let q = pushed_one_more c.in-Some-user_of.user c.pop.new.self c.push-in-Some.new.self c.push-in-Some.result c.push-in-Some.ensures.answer in
    omega (arith, e.1, k, p, q)
