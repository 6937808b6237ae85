-- Each kind has some record, so that only the length can be wrong.
use Rattle.std.proofs.Common.{◌≡◌, ap, ◌∙◌}
use Rattle.std.specs.Option.{ok_or}
use Rattle.records.specs.declared.fault.Fault.TheVariants.{WrongLength}
use Rattle.records.specs.declared.record.Record.TheVariants.{Axiom, Tensor, Par, Cut}
use Rattle.records.specs.Kinds.{code_of}
use Rattle.records.proofs.Fronts.{body_or_length}
use Rattle.records.proofs.body.with_body.Goals as goal
use Rattle.records.proofs.body.with_body.Goals.{in-Axiom, in-Tensor, in-Par, in-Cut}

pub returns : goal.returns
returns c =
    let kind = code_of c.args.kind in
    let body = c.args.body.now in
    let answer = c.ok_or.result in
    let is : answer ≡ ok_or c.match-kind.record WrongLength = c.ok_or.ensures.value in
    elim c.match-kind.branch [
      | in-Axiom w ↦ body_or_length (Axiom 0 0 0 0 0) kind body w.axiom-record.result answer (ap code_of w.in-Axiom.is) w.axiom-record.ensures (is ∙ ap (λ found. ok_or found WrongLength) w.record-is)
      | in-Tensor w ↦ body_or_length (Tensor 0 0 0 0) kind body w.tensor-record.result answer (ap code_of w.in-Tensor.is) w.tensor-record.ensures (is ∙ ap (λ found. ok_or found WrongLength) w.record-is)
      | in-Par w ↦ body_or_length (Par 0 0 0 0) kind body w.par-record.result answer (ap code_of w.in-Par.is) w.par-record.ensures (is ∙ ap (λ found. ok_or found WrongLength) w.record-is)
      | in-Cut w ↦ body_or_length (Cut 0 0 0) kind body w.cut-record.result answer (ap code_of w.in-Cut.is) w.cut-record.ensures (is ∙ ap (λ found. ok_or found WrongLength) w.record-is)
    ]
