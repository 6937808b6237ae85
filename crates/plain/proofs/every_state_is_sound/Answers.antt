-- The theorem is shown in proofs/Lawfulness.antt.
use Rattle.plain.proofs.Lawfulness.{every_state_sound}
use Rattle.plain.proofs.every_state_is_sound.Goals as goal

pub returns : goal.returns
returns g c = every_state_sound
