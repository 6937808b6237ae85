-- What is proved of cut steps, each named by the contract of a public function.
use Rattle.std.specs.Prelude.{◌≡◌, ℕ, ◌+◌, ◌≤◌, min, ◌⊎◌, ◌↔◌, List, length}
use Rattle.links.specs.declared.link.Link.{Link}
use Rattle.links.specs.declared.link.Link.TheVariants.{Empty, Axiom, Cut}
use Rattle.links.specs.Links.{link_at, Conclusion, CutFree}
use Rattle.links.specs.Formulas.{Formula, Reads}
use Rattle.links.specs.Facts.{Facts}
use Rattle.switchings.specs.Switchings.{Correct}
use Rattle.cuts.specs.Steps.{Meets, OfTensorAndPar, OfWires, CutStep, Steps, label}
use Rattle.cuts.specs.Costs.{Cost, RunDown}
use Rattle.cuts.specs.Chains.{AboveCut, Chain, along, last_of, Positive, Negative, From}

-- cut c is one of a tensor and a par, one of two wires, or one of a wire against itself
abbrev pub CutsTensorAndPar : List Link → ℕ → Type 0
CutsTensorAndPar ls c = (t : ℕ) × (p : ℕ) × (x : ℕ) × (y : ℕ) × (l : ℕ) × (r : ℕ) × (m : ℕ) × (s : ℕ) × OfTensorAndPar ls c t p x y l r m s

abbrev pub CutsTwoWires : List Link → ℕ → Type 0
CutsTwoWires ls c = (f : ℕ) × (g : ℕ) × (p : ℕ) × (q : ℕ) × (a : ℕ) × (p₂ : ℕ) × (q₂ : ℕ) × (a₂ : ℕ) × OfWires ls c f g p q a p₂ q₂ a₂

abbrev pub CutsOneWire : List Link → ℕ → Type 0
CutsOneWire ls c = (f : ℕ) × (p : ℕ) × (q : ℕ) × (a : ℕ) × (link_at ls f ≡ Axiom p q a) × Meets (link_at ls c) p q

-- every cut has one of three forms
abbrev pub CutForms : Type 0
CutForms = (ls : List Link) → Facts ls → (c a b : ℕ) → link_at ls c ≡ Cut a b → CutsTensorAndPar ls c ⊎ (CutsTwoWires ls c ⊎ CutsOneWire ls c)

-- in a correct structure no wire is cut against itself
abbrev pub CorrectCutForms : Type 0
CorrectCutForms = (ls : List Link) → Facts ls → Correct ls → (c a b : ℕ) → link_at ls c ≡ Cut a b → CutsTensorAndPar ls c ⊎ CutsTwoWires ls c

-- a step keeps the facts
abbrev pub StepKeepsFacts : Type 0 → Type 0
StepKeepsFacts L = (op : L → L → L) (d : L) (c : ℕ) (ls ls' : List Link) (board board' : List L) → CutStep op d c ls board ls' board' → Facts ls → Facts ls'

-- it keeps the conclusions and their formulas
abbrev pub StepKeepsConclusions : Type 0 → Type 0
StepKeepsConclusions L = (op : L → L → L) (d : L) (c : ℕ) (ls ls' : List Link) (board board' : List L) → CutStep op d c ls board ls' board' → Facts ls → (o : ℕ) → (Conclusion ls o ↔ Conclusion ls' o) × (Conclusion ls o → (F : Formula) → Reads ls o F ↔ Reads ls' o F)

-- a correct structure stays correct
abbrev pub StepKeepsCorrect : Type 0 → Type 0
StepKeepsCorrect L = (op : L → L → L) (d : L) (c : ℕ) (ls ls' : List Link) (board board' : List L) → CutStep op d c ls board ls' board' → Facts ls → Correct ls → Correct ls'

-- a cut has at most one step
abbrev pub OneStep : Type 0 → Type 0
OneStep L = (op : L → L → L) (d : L) (c : ℕ) (ls ls₁ ls₂ : List Link) (board board₁ board₂ : List L) → Facts ls → CutStep op d c ls board ls₁ board₁ → CutStep op d c ls board ls₂ board₂ → (ls₁ ≡ ls₂) × (board₁ ≡ board₂)

-- in a correct structure it has one, and the cut goes
abbrev pub CutHasStep : Type 0 → Type 0
CutHasStep L = (op : L → L → L) (d : L) (ls : List Link) (board : List L) → Facts ls → Correct ls → (c a b : ℕ) → link_at ls c ≡ Cut a b → (ls' : List Link) × (board' : List L) × CutStep op d c ls board ls' board' × (link_at ls' c ≡ Empty)

-- a structure has one cost
abbrev pub OneCost : Type 0
OneCost = (ls : List Link) → Facts ls → ((cost : ℕ) × Cost ls cost) × ((i j : ℕ) → Cost ls i → Cost ls j → i ≡ j)

-- a step lowers it by one
abbrev pub StepLowersCost : Type 0 → Type 0
StepLowersCost L = (op : L → L → L) (d : L) (c : ℕ) (ls ls' : List Link) (board board' : List L) → CutStep op d c ls board ls' board' → Facts ls → (i j : ℕ) → Cost ls i → Cost ls' j → i ≡ j + 1

-- so many steps lower it by as many
abbrev pub StepsLowerCost : Type 0 → Type 0
StepsLowerCost L = (op : L → L → L) (d : L) (k : ℕ) (ls ls' : List Link) (board board' : List L) → Steps op d k ls board ls' board' → Facts ls → (i j : ℕ) → Cost ls i → Cost ls' j → i ≡ j + k

-- it is 0 exactly when no cut stands
abbrev pub NoCostNoCut : Type 0
NoCostNoCut = (ls : List Link) (cost : ℕ) → Cost ls cost → (cost ≡ 0) ↔ CutFree ls

-- any number of steps keeps the facts, correctness, lengths, conclusions and their formulas
abbrev pub StepsKeep : Type 0 → Type 0
StepsKeep L = (op : L → L → L) (d : L) (k : ℕ) (ls ls' : List Link) (board board' : List L) → Steps op d k ls board ls' board' → Facts ls → Correct ls → Facts ls' × Correct ls' × (length ls' ≡ length ls) × (length board' ≡ length board) × ((o : ℕ) → (Conclusion ls o ↔ Conclusion ls' o) × (Conclusion ls o → (F : Formula) → (Reads ls o F ↔ Reads ls' o F)))

-- a run-down makes the smaller of budget and cost many steps
abbrev pub RunDownCounts : Type 0 → Type 0
RunDownCounts L = (op : L → L → L) (d : L) (budget made : ℕ) (ls ls' : List Link) (board board' : List L) → RunDown op d budget made ls board ls' board' → Facts ls → (cost : ℕ) → Cost ls cost → (made ≡ min budget cost) × Steps op d made ls board ls' board'

-- a correct structure has a run-down for each budget
abbrev pub RunDownStands : Type 0 → Type 0
RunDownStands L = (op : L → L → L) (d : L) (budget : ℕ) (ls : List Link) (board : List L) → Facts ls → Correct ls → (made : ℕ) × (ls' : List Link) × (board' : List L) × RunDown op d budget made ls board ls' board'

abbrev pub Assoc : {L : Type 0} → (L → L → L) → Type 0
Assoc {L} op = (x y z : L) → op (op x y) z ≡ op x (op y z)

-- a chain after a step comes from a chain before it that starts at the same wire, with the same label and ends
abbrev pub StepKeepsLabels : Type 0 → Type 0
StepKeepsLabels L = (op : L → L → L) (d : L) → Assoc op → (c : ℕ) (ls ls' : List Link) (board board' : List L) → CutStep op d c ls board ls' board' → Facts ls → length ls ≤ length board + 1 → (w : ℕ) (ws' : List ℕ) → Chain ls' w ws' → (p q : ℕ) → Positive ls' (last_of w ws') p → Negative ls' w q → From op d ls board w (along op d board' w ws') p q

-- where no cut is left, each wire has the label of the chain that it starts in the first structure, the negative end of
-- the chain's first wire and the positive end of its last
abbrev pub LabelsAlongChains : Type 0 → Type 0
LabelsAlongChains L = (op : L → L → L) (d : L) → Assoc op → (k : ℕ) (ls ls' : List Link) (board board' : List L) → Steps op d k ls board ls' board' → Facts ls → length ls ≤ length board + 1 → CutFree ls' → (w p q a : ℕ) → link_at ls' w ≡ Axiom p q a → From op d ls board w (label d board' w) p q

-- a wire starts at most one chain
abbrev pub OneChain : Type 0
OneChain = (ls : List Link) → Facts ls → (w : ℕ) (ws vs : List ℕ) → Chain ls w ws → Chain ls w vs → ws ≡ vs

-- in a correct structure each wire whose negative end is above no cut starts one
abbrev pub FreeWiresStartChains : Type 0
FreeWiresStartChains = (ls : List Link) → Facts ls → Correct ls → (w p q a : ℕ) → link_at ls w ≡ Axiom p q a → (AboveCut ls q → ⊥) → (ws : List ℕ) × Chain ls w ws
