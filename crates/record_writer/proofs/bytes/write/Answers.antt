-- What `put` was handed are the record's bytes.
use Rattle.std.proofs.Common.{sym, ap, ◌∙◌}
use Rattle.records.specs.Format.{bytes_of}
use Rattle.record_writer.proofs.Backs.{puts_record}
use Rattle.record_writer.proofs.bytes.write.Goals as goal

pub returns-in-Axiom : goal.returns-in-Axiom
unfolding bytes_of
returns-in-Axiom c = puts_record c.args.given c.axiom.result c.args.out.now c.put.new.out c.put.result (c.axiom.ensures ∙ sym (ap bytes_of c.in-Axiom.is)) c.put.ensures

pub returns-in-Tensor : goal.returns-in-Tensor
unfolding bytes_of
returns-in-Tensor c = puts_record c.args.given c.connective.result c.args.out.now c.put-in-Tensor.new.out c.put-in-Tensor.result (c.connective.ensures ∙ sym (ap bytes_of c.in-Tensor.is)) c.put-in-Tensor.ensures

pub returns-in-Par : goal.returns-in-Par
unfolding bytes_of
returns-in-Par c = puts_record c.args.given c.connective-in-Par.result c.args.out.now c.put-in-Par.new.out c.put-in-Par.result (c.connective-in-Par.ensures ∙ sym (ap bytes_of c.in-Par.is)) c.put-in-Par.ensures

pub returns-in-Cut : goal.returns-in-Cut
unfolding bytes_of
returns-in-Cut c = puts_record c.args.given c.cut.result c.args.out.now c.put-in-Cut.new.out c.put-in-Cut.result (c.cut.ensures ∙ sym (ap bytes_of c.in-Cut.is)) c.put-in-Cut.ensures
