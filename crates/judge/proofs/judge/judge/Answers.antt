use Rattle.refusals.specs.declared.refusal.Refusal.TheVariants.{TooShort, NothingStands}
use Rattle.judge.specs.declared.verdict.Verdict.TheVariants.{Accepted, Cyclic, Apart}
use Rattle.judge.proofs.Grounds.{some_link, long_enough, tree_provable, accepted, cycle_judged, gap_judged, exact}
use Rattle.judge.proofs.judge.judge.Goals as goal

pub show-requires : goal.show-requires
show-requires c = record { row = long_enough (c.in_ok-check.ensures.answer TooShort) }

pub returns-in_default : goal.returns-in_default
returns-in_default c =
    let ls = c.args.table.now.slots.at in
    let facts = c.args.table.now.facts in
    let row = c.args.row.now in
    let u = c.unify-unification.result in
    let no-reason = c.in_ok-check.ensures.answer in
    let v = some_link ls (no-reason NothingStands) in
    let p = tree_provable ls facts u.ended u.marking c.unify-unification.ensures.answer c.choose_sides-sides.result c.choose_sides-sides.ensures.row c.in_default.ensures.answer v.0 v.1 in
    let j = accepted ls facts row p in
    record { answer = (no-reason, j); law = exact ls facts row row Accepted j }

pub returns-in-Round : goal.returns-in-Round
returns-in-Round c =
    let ls = c.args.table.now.slots.at in
    let facts = c.args.table.now.facts in
    let before = c.args.row.now in
    let after = c.show.new.row in
    let f = rw c.in-Round.is at c.in-Err.ensures.answer in
    let j = cycle_judged ls facts c.choose_sides-sides.result before after c.unify-unification.result.marking.token c.show.auto.row c.choose_sides-sides.ensures.row c.show.ensures.row c.in-Round.n f in
    record { answer = (c.in_ok-check.ensures.answer, j); law = exact ls facts before after (Cyclic c.in-Round.n) j }

pub returns-in-Split : goal.returns-in-Split
returns-in-Split c =
    let ls = c.args.table.now.slots.at in
    let facts = c.args.table.now.facts in
    let before = c.args.row.now in
    let after = c.show.new.row in
    let f = rw c.in-Split.is at c.in-Err.ensures.answer in
    let j = gap_judged ls facts c.choose_sides-sides.result before after c.unify-unification.result.marking.token c.show.auto.row c.choose_sides-sides.ensures.row c.show.ensures.row c.in-Split.m c.in-Split.n f in
    record { answer = (c.in_ok-check.ensures.answer, j); law = exact ls facts before after (Apart c.in-Split.m c.in-Split.n) j }
