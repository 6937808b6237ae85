use Rattle.std.proofs.Common.{◌∷◌}
use Rattle.std.proofs.lemmas.Result.{err_from_is_err_and}
use Rattle.switchings.specs.Edges.{edge}
use Rattle.survey.proofs.Surveying.{closes_next, added_two, added_both}
use Rattle.survey.proofs.classes.Classes.add.Goals as goal

pub returns-in_err-join-in-Tensor : goal.returns-in_err-join-in-Tensor
returns-in_err-join-in-Tensor c =
    let ls = c.args.index.now.table.now.slots.at in
    let n = c.args.n in
    let l = c.in-Tensor.left in
    let r = c.in-Tensor.right in
    let p = err_from_is_err_and c.from_residual.result c.from_residual.ensures.1 in
    record {
      items = λ E t.
          added_both ls n c.args.side l r c.link.result c.link.ensures.value c.in-Tensor.is E c.from_residual.result c.join-in-Tensor.new.self.labels
          (rw (p.1, p.2) (closes_next (edge ls n r ∷ E) (edge ls n l) c.in_err-join-in-Tensor.field-0.0 (c.in_err-join-in-Tensor.ensures.items E t)));
    }

pub returns-in_ok-join-in-Tensor : goal.returns-in_ok-join-in-Tensor
returns-in_ok-join-in-Tensor c =
    let ls = c.args.index.now.table.now.slots.at in
    let n = c.args.n in
    let l = c.in-Tensor.left in
    let r = c.in-Tensor.right in
    let k = c.join-in-Tensor-2.result in
    let labels = c.join-in-Tensor-2.new.self.labels in
    record {
      items = λ E t.
          let f = c.in_ok-join-in-Tensor.ensures.items E t in
          added_both ls n c.args.side l r c.link.result c.link.ensures.value c.in-Tensor.is E k labels (added_two E (edge ls n l) (edge ls n r) k labels f.0 (c.join-in-Tensor-2.ensures.items (edge ls n r ∷ E) f.1));
    }
