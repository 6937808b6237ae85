-- The cost of a structure, and run-downs.
use Rattle.std.specs.Prelude.{◌≡◌, ℕ, zero, suc, ◌+◌, ◌*◌, ◌<◌, List, length, ◌≢◌}
use Rattle.links.specs.declared.link.Link.{Link}
use Rattle.links.specs.declared.link.Link.TheVariants.{Empty, Axiom, Tensor, Par, Cut}
use Rattle.links.specs.Links.{link_at, CutFree, total}
use Rattle.links.specs.Formulas.{Formula, connectives, Reads}
use Rattle.cuts.specs.Steps.{CutStep}

-- a cut weighs twice the connectives of one premise and one more, any other link nothing
abbrev pub Weighs : List Link → Link → ℕ → Type 0
Weighs ls Empty w = w ≡ 0
Weighs ls (Axiom p q a) w = w ≡ 0
Weighs ls (Tensor l r c) w = w ≡ 0
Weighs ls (Par l r c) w = w ≡ 0
Weighs ls (Cut a b) w = (F : Formula) × Reads ls a F × (w ≡ 2 * connectives F + 1)

-- the sum of the weights of all links
pub record Cost (ls : List Link) (cost : ℕ) : Type 0 where
  pub weight : ℕ → ℕ
  pub weighs : (n : ℕ) → Weighs ls (link_at ls n) (weight n)
  pub sum : cost ≡ total weight (length ls)

-- c is a cut, and no lower number is
pub record LowestCut (ls : List Link) (c : ℕ) : Type 0 where
  pub left : ℕ
  pub right : ℕ
  pub cut : link_at ls c ≡ Cut left right
  pub least : (n a b : ℕ) → n < c → link_at ls n ≢ Cut a b

-- each step reduces the lowest-numbered cut, until the budget, given first, or the cuts run out; then comes how many
-- steps were made
pub data RunDown {L : Type 0} (op : L → L → L) (d : L) : ℕ → ℕ → List Link → List L → List Link → List L → Type 0 where
  spent : {ls : List Link} {board : List L} → RunDown op d zero zero ls board ls board
  clear : {budget : ℕ} {ls : List Link} {board : List L} → CutFree ls → RunDown op d budget zero ls board ls board
  again : {budget made c : ℕ} {ls ls₁ ls₂ : List Link} {board board₁ board₂ : List L} → LowestCut ls c → CutStep op d c ls board ls₁ board₁ → RunDown op d budget made ls₁ board₁ ls₂ board₂ → RunDown op d (suc budget) (suc made) ls board ls₂ board₂
