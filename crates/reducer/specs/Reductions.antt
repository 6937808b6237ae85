-- What the reducer's calls do, in the words of cut steps.
use Rattle.std.specs.Prelude.{◌≡◌, ℕ, ◌<◌, List, length, Result}
use Rattle.refusals.specs.declared.refusal.Refusal.{Refusal}
use Rattle.refusals.specs.declared.refusal.Refusal.TheVariants.{TooShort}
use Rattle.refusals.specs.Reasons.{Reasons, on, no_other, ◌before◌, Says}
use Rattle.links.specs.declared.link.Link.{Link}
use Rattle.links.specs.declared.link.Link.TheVariants.{Empty, Axiom, Tensor, Par, Cut}
use Rattle.table.specs.Refusing.{link_number, no_such_cut}
use Rattle.cuts.specs.Steps.{OfTensorAndPar, parted, OfWires, wired, CutStep}
use Rattle.cuts.specs.Claims.{CutsOneWire}
use Rattle.reducer.specs.declared.reduction.Reduction.{Reduction}
use Rattle.reducer.specs.declared.reduction.Reduction.TheVariants.{Parted, Joined, SelfCut}

-- the link with another positive end, if it is a wire
abbrev pub with_positive : Link → ℕ → Link
with_positive Empty e = Empty
with_positive (Axiom p q a) e = Axiom e q a
with_positive (Tensor l r c) e = Tensor l r c
with_positive (Par l r c) e = Par l r c
with_positive (Cut l r) e = Cut l r

-- the links before and after a step at cut c, by what is answered of it
pub data StepOfLinks (ls ls' : List Link) (c : ℕ) : Reduction → Type 0 where
  part : (t p x y l r m s : ℕ) → OfTensorAndPar ls c t p x y l r m s → ls' ≡ parted ls c t p l r m s → StepOfLinks ls ls' c Parted
  join : (f g p q a p₂ q₂ a₂ : ℕ) → OfWires ls c f g p q a p₂ q₂ a₂ → ls' ≡ wired ls c f g q a p₂ → StepOfLinks ls ls' c (Joined f g)
  stuck : CutsOneWire ls c → ls' ≡ ls → StepOfLinks ls ls' c SelfCut

abbrev pub ReducesLinks : ℕ → List Link → List Link → Result Reduction Refusal → Type 0
ReducesLinks n ls ls' answer = Says (link_number n before no_such_cut ls n) (λ did. StepOfLinks ls ls' n did) (ls' ≡ ls) answer

-- a board below 256 entries
abbrev pub short_board : {L : Type 0} → List L → Reasons
short_board board = on TooShort (length board < 256) no_other

-- what it did on links and board: a step of the cut (what is read past a board's end does not matter), or none where a
-- wire is cut against itself
abbrev pub OnBoard : {L : Type 0} → (L → L → L) → ℕ → List Link → List L → List Link → List L → Reduction → Type 0
OnBoard {L} op n ls board ls' board' Parted = (d : L) → CutStep op d n ls board ls' board'
OnBoard {L} op n ls board ls' board' (Joined f g) = (d : L) → CutStep op d n ls board ls' board'
OnBoard {L} op n ls board ls' board' SelfCut = CutsOneWire ls n × (ls' ≡ ls) × (board' ≡ board)

abbrev pub Stepped : {L : Type 0} → (L → L → L) → ℕ → List Link → List L → List Link → List L → Reduction → Type 0
Stepped op n ls board ls' board' did = StepOfLinks ls ls' n did × OnBoard op n ls board ls' board' did

abbrev pub Reduces : {L : Type 0} → (L → L → L) → ℕ → List Link → List L → List Link → List L → Result Reduction Refusal → Type 0
Reduces op n ls board ls' board' answer = Says (link_number n before short_board board before no_such_cut ls n) (λ did. Stepped op n ls board ls' board' did) ((ls' ≡ ls) × (board' ≡ board)) answer
