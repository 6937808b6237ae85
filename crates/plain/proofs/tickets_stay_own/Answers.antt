-- The theorem is shown in proofs/TicketsOwn.antt.
use Rattle.plain.proofs.TicketsOwn.{tickets_stay_own_lem}
use Rattle.plain.proofs.tickets_stay_own.Goals as goal

pub returns : goal.returns
returns g c = tickets_stay_own_lem
