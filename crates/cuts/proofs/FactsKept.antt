-- What a step keeps.
use Rattle.cuts.specs.Steps.CutStep.{tensor_par, wires}
use Rattle.cuts.specs.Claims.{StepKeepsFacts}
use Rattle.cuts.proofs.Parting as Pa
use Rattle.cuts.proofs.Wiring as Wi

pub step_keeps_facts_lem : (L : Type 0) → StepKeepsFacts L
step_keeps_facts_lem L op d c ls ls' board board' (tensor_par t p x y l r m s h e _) n = Pa.facts_after ls ls' c t p x y l r m s (Pa.slots ls ls' c t p x y l r m s h e) n
step_keeps_facts_lem L op d c ls ls' board board' (wires f g p q a p₂ q₂ a₂ h e _) n = Wi.facts_after ls ls' c f g p q a p₂ q₂ a₂ (Wi.slots ls ls' c f g p q a p₂ q₂ a₂ h e) n
