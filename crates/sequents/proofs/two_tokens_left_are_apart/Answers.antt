-- The theorem is shown in proofs/Endings.antt.
use Rattle.sequents.proofs.Endings.{two_tokens_left_are_apart_lem}
use Rattle.sequents.proofs.two_tokens_left_are_apart.Goals as goal

pub returns : goal.returns
returns c = two_tokens_left_are_apart_lem
