-- The theorem is shown in proofs/CorrectKept.antt.
use Rattle.cuts.proofs.CorrectKept.{correct_cut_forms_lem}
use Rattle.cuts.proofs.correct_cut_forms.Goals as goal

pub returns : goal.returns
returns c = correct_cut_forms_lem
