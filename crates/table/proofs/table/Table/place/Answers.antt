use Rattle.std.proofs.Common.{refl}
use Rattle.std.proofs.lemmas.Result.{err_from_is_err_and}
use Rattle.refusals.proofs.Refusing.{first_before}
use Rattle.table.proofs.Placing.{link_parted, link_in_range, placed, written}
use Rattle.table.proofs.table.Table.place.Goals as goal

pub returns-in_err-check_numbers : goal.returns-in_err-check_numbers
returns-in_err-check_numbers c =
    let p = err_from_is_err_and c.from_residual.result c.from_residual.ensures.1 in
    rw (p.1, p.2) (record { links = (first_before 4 (link_parted c.args.self.now.slots.at c.args.n c.args.link) c.in_err-check_numbers.ensures.answer, refl) })

pub put-requires-clause-number : goal.put-requires-clause-number
put-requires-clause-number c = (link_in_range c.args.n c.args.link c.in_ok-check_numbers.ensures.answer).1

pub invariant_of-self : goal.invariant_of-self
invariant_of-self c =
    let t = c.args.self.now in
    let w = written t.slots.at c.put.new.self.at c.args.n _ c.put.ensures.links t.long t.facts (placed t.slots.at t.long c.args.n c.args.link c.in_ok-check_numbers.ensures.answer c.in_ok-check_place.ensures.answer) in
    record { long = w.0; facts = w.1.0 }
