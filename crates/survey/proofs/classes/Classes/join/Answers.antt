use Rattle.std.proofs.Common.{sym, refl}
use Rattle.switchings.specs.Edges.{edge}
use Rattle.survey.proofs.Surveying.{joined_one, round_one}
use Rattle.survey.proofs.classes.Classes.join.Goals as goal

pub returns-then-merge : goal.returns-then-merge
returns-then-merge c =
    let e = edge c.args.index.now.table.now.slots.at c.args.n c.args.premise in
    record { items = λ E t. joined_one E e c.merge.new.self.labels (c.if-merge.ensures.items E e (sym c.maker-maker.ensures.value) refl t) }

pub returns-else-merge : goal.returns-else-merge
returns-else-merge c =
    let e = edge c.args.index.now.table.now.slots.at c.args.n c.args.premise in
    record { items = λ E t. round_one E e c.maker-maker.result c.maker-maker.ensures.value (c.if-merge.ensures.items E e (sym c.maker-maker.ensures.value) refl t) }
