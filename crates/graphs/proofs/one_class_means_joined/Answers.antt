-- The theorem is shown in proofs/Classes.antt.
use Rattle.graphs.proofs.Classes.{one_class_means_joined_lem}
use Rattle.graphs.proofs.one_class_means_joined.Goals as goal

pub returns : goal.returns
returns c = one_class_means_joined_lem
