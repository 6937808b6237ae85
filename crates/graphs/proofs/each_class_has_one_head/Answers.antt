-- The theorem is shown in proofs/Classes.antt.
use Rattle.graphs.proofs.Classes.{each_class_has_one_head_lem}
use Rattle.graphs.proofs.each_class_has_one_head.Goals as goal

pub returns : goal.returns
returns c = each_class_has_one_head_lem
