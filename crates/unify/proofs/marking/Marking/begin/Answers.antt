use Rattle.std.proofs.Common.{◌≡◌, cond, refl, rules}
use Rattle.links.specs.Links.{link_at}
use Rattle.switchings.specs.Edges.{is_axiom_lem}
use Rattle.makers.proofs.Rows.{made_each}
use Rattle.unify.proofs.Starting.{start_means}
use Rattle.unify.proofs.marking.Marking.begin.Goals as goal

pub returns : goal.returns
returns c =
    let ls = c.args.index.now.table.now.slots.at in
    record { marks = start_means ls _ c.args.index.now.table.now.facts (made_each (λ k x. x ≡ cond (is_axiom_lem (link_at ls k)) k 0) (λ k x q e. search rules) c.from_fn-token.ensures.items) refl refl }
