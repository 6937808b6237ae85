-- The theorem is shown in proofs/Forms.antt.
use Rattle.cuts.proofs.Forms.{cut_forms_lem}
use Rattle.cuts.proofs.cut_forms.Goals as goal

pub returns : goal.returns
returns c = cut_forms_lem
