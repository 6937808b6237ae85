use Rattle.std.proofs.Common.{rules, ◌≡◌, ◌≢◌, get_or, arith}
use borrow.Author.Tests.{tests}
use Rattle.std.proofs.lemmas.Iterator.{first_from_Range}
use Rattle.links.specs.declared.link.Link.TheVariants.{Empty}
use Rattle.links.specs.Links.{link_at, LinkStands}
use Rattle.survey.proofs.Surveying.{no_label, one_label}
use Rattle.survey.proofs.classes.Classes.check_one.Goals as goal

pub returns-in_default : goal.returns-in_default
returns-in_default c =
    let ls = c.args.index.now.table.now.slots.at in
    let f = rw c.in_default.is at (first_from_Range _ _ _ c.find.result (LinkStands ls) (λ k. link_at ls k ≡ Empty) c.find.ensures.ran (λ x q k. search (rules, tests)) (λ x q k. search (rules, tests))) in
    record { answer = no_label ls c.args.index.now.table.now.facts c.args.self.now.labels (λ n h. f n (omega arith) (omega arith)) }

pub returns-in-Some-other : goal.returns-in-Some-other
returns-in-Some-other c =
    let ls = c.args.index.now.table.now.slots.at in
    let labels = c.args.self.now.labels in
    let first = c.in-Some.first in
    let f = rw c.in-Some.is at (first_from_Range _ _ _ c.find.result (LinkStands ls) (λ k. link_at ls k ≡ Empty) c.find.ensures.ran (λ x q k. search (rules, tests)) (λ x q k. search (rules, tests))) in
    let g = rw c.in-Some-other.is at (first_from_Range _ _ _ c.find-other.result (λ k. LinkStands ls k × (get_or labels first 0 ≢ get_or labels k 0)) (λ k. LinkStands ls k → get_or labels first 0 ≡ get_or labels k 0) c.find-other.ensures.ran (λ x q k. search (rules, tests)) (λ x q k. search (rules, tests))) in
    record { answer = (f.2, g.2.0, g.2.1) }

pub returns-in-None : goal.returns-in-None
returns-in-None c =
    let ls = c.args.index.now.table.now.slots.at in
    let labels = c.args.self.now.labels in
    let first = c.in-Some.first in
    let g = rw c.in-None.is at (first_from_Range _ _ _ c.find-other.result (λ k. LinkStands ls k × (get_or labels first 0 ≢ get_or labels k 0)) (λ k. LinkStands ls k → get_or labels first 0 ≡ get_or labels k 0) c.find-other.ensures.ran (λ x q k. search (rules, tests)) (λ x q k. search (rules, tests))) in
    record { answer = one_label ls c.args.index.now.table.now.facts labels first (λ n h. g n (omega arith) (omega arith)) }
