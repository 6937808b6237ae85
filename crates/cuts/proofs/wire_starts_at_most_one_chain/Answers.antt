-- The theorem is shown in proofs/OneChain.antt.
use Rattle.cuts.proofs.OneChain.{one_chain}
use Rattle.cuts.proofs.wire_starts_at_most_one_chain.Goals as goal

pub returns : goal.returns
returns c = one_chain
