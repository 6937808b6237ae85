use Rattle.std.proofs.Common.{rules, refl, arith}
use borrow.Author.Tests.{tests}
use Rattle.std.proofs.lemmas.Iterator.{cases_from_any, YieldsList-from_range}
use Rattle.sides.specs.Rule.{Waiting}
use Rattle.sides.proofs.Choosing.{some_waits}
use Rattle.sides.proofs.tokens.Marked.waits.Goals as goal

pub returns : goal.returns
returns c =
    let ls = c.args.self.now.index.table.now.slots.at in
    let tokens = c.args.self.now.tokens.now in
    let t = c.args.t in
    record { value = some_waits ls c.args.self.now.index.table.now.facts tokens t 257 (omega arith) c.any.result (cases_from_any _ _ _ (Waiting ls tokens t) (λ n. Waiting ls tokens t n → ⊥) c.any.ensures.ran (YieldsList-from_range 0 257 257 refl refl) (λ x q k. search (rules, tests)) (λ x q k. search (rules, tests))) }
