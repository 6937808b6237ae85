use Rattle.std.proofs.Common.{◌≡◌, sym, ◌∙◌, subst, rules}
use Rattle.links.specs.declared.link.Link.{Link}
use Rattle.makers.proofs.Arms.{OfTwo}
use Rattle.unify.specs.Markings.{token_of}
use Rattle.unify.proofs.Settling.{passes_low, went_par, went_join, tangle_at}
use Rattle.unify.proofs.marking.Marking.pass.Goals as goal

pub settle-requires-clause-passes : goal.settle-requires-clause-passes
settle-requires-clause-passes c = passes_low c.args.index.now.table.now.slots.at c.args.self.now c.args.index.now.table.now.facts c.requires.marks

pub settle-requires-in-Tensor-clause-passes : goal.settle-requires-in-Tensor-clause-passes
settle-requires-in-Tensor-clause-passes c = passes_low c.args.index.now.table.now.slots.at c.args.self.now c.args.index.now.table.now.facts c.requires.marks

pub returns-then-s-t : goal.returns-then-s-t
returns-then-s-t c =
    let ls = c.args.index.now.table.now.slots.at in
    let m = c.args.self.now in
    let l = c.in-Tensor.left in
    let r = c.in-Tensor.right in
    let z : token_of m c.args.n ≡ c.unwrap_or.result = sym (search rules) in
    let two = subst (λ (k : Link). OfTwo k l r) c.link.ensures.value c.in-Tensor.is in
    record { marks = tangle_at ls c.args.index.now.table.now.facts m c.requires.marks c.args.n l r c.token_on-s-in-Tensor.result c.token_on-t.result (z ∙ c.if-unwrap_or-ne0.false) two (sym c.token_on-s-in-Tensor.ensures.value) (sym c.token_on-t.ensures.value) c.if-s-eq0-2.false c.if-s-t.true }

pub returns-else-token_on-s : goal.returns-else-token_on-s
returns-else-token_on-s c =
    let ls = c.args.index.now.table.now.slots.at in
    let m = c.args.self.now in
    let z : token_of m c.args.n ≡ c.unwrap_or.result = sym (search rules) in
    record { marks = (went_par ls c.args.index.now.table.now.facts m c.settle.new.self c.requires.marks c.args.n c.in-Par.left c.in-Par.right c.in-Par.conclusion c.token_on-s.result (z ∙ c.if-unwrap_or-ne0.false) (sym c.link.ensures.value ∙ c.in-Par.is) (sym c.token_on-s.ensures.value) (sym c.token_on.ensures.value ∙ c.if-token_on-s.false) c.if-s-eq0.false c.settle.ensures.marks, c.settle.ensures.marks.count) }

pub returns-else-s-t : goal.returns-else-s-t
returns-else-s-t c =
    let ls = c.args.index.now.table.now.slots.at in
    let m = c.args.self.now in
    let l = c.in-Tensor.left in
    let r = c.in-Tensor.right in
    let z : token_of m c.args.n ≡ c.unwrap_or.result = sym (search rules) in
    let two = subst (λ (k : Link). OfTwo k l r) c.link.ensures.value c.in-Tensor.is in
    record { marks = (went_join ls c.args.index.now.table.now.facts m c.settle-in-Tensor.new.self c.requires.marks c.args.n l r c.token_on-s-in-Tensor.result c.token_on-t.result (z ∙ c.if-unwrap_or-ne0.false) two (sym c.token_on-s-in-Tensor.ensures.value) (sym c.token_on-t.ensures.value) c.if-s-eq0-2.false c.if-t-eq0.false c.if-s-t.false c.settle-in-Tensor.ensures.marks, c.settle-in-Tensor.ensures.marks.count) }
