use Rattle.refusals.specs.declared.refusal.Refusal.TheVariants.{LinkRange}
use Rattle.table.proofs.Placing.{within, withdrawn, written}
use Rattle.table.proofs.table.Table.withdraw.Goals as goal

pub put-requires-clause-number : goal.put-requires-clause-number
put-requires-clause-number c = (within (c.in_ok-check_link.ensures.answer LinkRange)).1

pub invariant_of-self : goal.invariant_of-self
invariant_of-self c =
    let t = c.args.self.now in
    let w = written t.slots.at c.put.new.self.at c.args.n _ c.put.ensures.links t.long t.facts (withdrawn t.slots.at t.long c.args.n c.in_ok-check_link.ensures.answer c.in_ok-check_leave.ensures.answer) in
    record { long = w.0; facts = w.1.0 }
