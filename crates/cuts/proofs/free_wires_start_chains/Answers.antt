-- The theorem is shown in proofs/ChainStarts.antt.
use Rattle.cuts.proofs.ChainStarts.{free_wires_start_chains_lem}
use Rattle.cuts.proofs.free_wires_start_chains.Goals as goal

pub returns : goal.returns
returns c = free_wires_start_chains_lem
