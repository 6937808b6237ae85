use Rattle.std.proofs.Common.{Err, subst, arith}
use Rattle.std.proofs.lemmas.Result.{err_from_is_err_and}
use Rattle.switchings.specs.Rows.{sides_of}
use Rattle.table.specs.declared.table.Table.{Table}
use Rattle.survey.specs.Findings.{Finds}
use Rattle.survey.proofs.Surveying.{none_taken, more_taken, flaw_at, surveyed}
use Rattle.survey.proofs.survey.survey.Goals as goal

pub loop-n-init : goal.loop-n-init
loop-n-init c = none_taken c.new-index.result.table.now.slots.at (sides_of c.args.sides.now) c.apart-classes.result.labels c.apart-classes.ensures.items

pub returns-in_err-add : goal.returns-in_err-add
returns-in_err-add c =
    let row = c.args.sides.now in
    let index = c.new-index.result in
    let p = err_from_is_err_and c.from_residual.result c.from_residual.ensures.1 in
    let flaw = c.in_err-add.field-0.0 in
    record { answer = rw (p.1, p.2) (subst (λ (t : Table). Finds t.slots.at (sides_of row) (Err flaw)) c.new-index.ensures.table (flaw_at index.table.now.slots.at row c.loop-n.n c.entry.result c.entry.ensures.value index.table.now.facts flaw c.add.new.self.labels (c.in_err-add.ensures.items _ c.loop-n.invariant.follows))) }

pub loop-n-preserved : goal.loop-n-preserved
loop-n-preserved c = more_taken c.new-index.result.table.now.slots.at c.args.sides.now c.loop-n.n c.entry.result c.entry.ensures.value c.loop-n.classes.labels c.add.new.self.labels c.loop-n.invariant (c.in_ok-add.ensures.items _ c.loop-n.invariant.follows)

pub returns : goal.returns
returns c =
    let index = c.new-index.result in
    let σ = sides_of c.args.sides.now in
    let r = c.check_one.result in
    record { answer = subst (λ (t : Table). Finds t.slots.at σ r) c.new-index.ensures.table (surveyed index.table.now.slots.at index.table.now.facts σ c.loop-n.n c.loop-n.classes.labels index.table.now.long (omega arith) c.loop-n.invariant r c.check_one.ensures.answer) }
