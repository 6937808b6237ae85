-- The theorem is shown in proofs/Endings.antt.
use Rattle.sequents.proofs.Endings.{one_token_left_is_a_proof_lem}
use Rattle.sequents.proofs.one_token_left_is_a_proof.Goals as goal

pub returns : goal.returns
returns c = one_token_left_is_a_proof_lem
