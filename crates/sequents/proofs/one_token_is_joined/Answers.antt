-- The theorem is shown in proofs/Endings.antt.
use Rattle.sequents.proofs.Endings.{one_token_is_joined_lem}
use Rattle.sequents.proofs.one_token_is_joined.Goals as goal

pub returns : goal.returns
returns c = one_token_is_joined_lem
