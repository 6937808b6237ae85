use Rattle.std.proofs.Common.{arith}
use Rattle.survey.proofs.Surveying.{merge_labels}
use Rattle.survey.proofs.classes.Classes.merge.Goals as goal

pub returns : goal.returns
returns c = record { items = λ E e p q t. merge_labels c.args.self.now.labels c.relabel.new.labels E e c.args.one c.args.other p q (omega arith) (omega arith) c.args.self.now.long t c.relabel.ensures.items c.if-kept-gone.false }
