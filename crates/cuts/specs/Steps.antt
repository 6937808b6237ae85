-- The two cut steps on links and labels, and sequences of steps.
-- Labels are read at a default d past the board's end; where the board is long enough, d does not matter.
use Rattle.std.specs.Prelude.{◌≡◌, ℕ, zero, suc, ◌-◌, ◌≢◌, ◌⊎◌, List, slice_index_or, slice_set}
use Rattle.links.specs.declared.link.Link.{Link}
use Rattle.links.specs.declared.link.Link.TheVariants.{Empty, Axiom, Tensor, Par, Cut}
use Rattle.links.specs.Links.{link_at}

-- the link is a cut of a and b, on whichever sides
abbrev pub Meets : Link → ℕ → ℕ → Type 0
Meets k a b = (k ≡ Cut a b) ⊎ (k ≡ Cut b a)

-- entry n of a board, counted from 1, is the label of wire n
abbrev pub label : {L : Type 0} → L → List L → ℕ → L
label d board n = slice_index_or board (n - 1) d

-- cut c is one of tensor t's conclusion x against par p's conclusion y
pub record OfTensorAndPar (ls : List Link) (c t p x y l r m s : ℕ) : Type 0 where
  pub cut : Meets (link_at ls c) x y
  pub tensor : link_at ls t ≡ Tensor l r x
  pub par : link_at ls p ≡ Par m s y

-- tensor, par and cut go, with both conclusions; a new cut of the left premises takes the tensor's number, one of the
-- right premises the par's; the tensor's part is the left premise of each
abbrev pub parted : List Link → ℕ → ℕ → ℕ → ℕ → ℕ → ℕ → ℕ → List Link
parted ls c t p l r m s = slice_set (slice_set (slice_set ls c Empty) t (Cut l m)) p (Cut r s)

-- cut c is one of two wires: first, f, is the one whose positive end is cut, second, g, the one whose negative end is
pub record OfWires (ls : List Link) (c f g p q a p₂ q₂ a₂ : ℕ) : Type 0 where
  pub cut : Meets (link_at ls c) p q₂
  pub first : link_at ls f ≡ Axiom p q a
  pub second : link_at ls g ≡ Axiom p₂ q₂ a₂
  pub differ : f ≢ g

-- second and the cut go, with both cut ends; first keeps its number and takes second's positive end
abbrev pub wired : List Link → ℕ → ℕ → ℕ → ℕ → ℕ → ℕ → List Link
wired ls c f g q a p₂ = slice_set (slice_set (slice_set ls c Empty) g Empty) f (Axiom p₂ q a)

-- the label of first becomes first composed with second
abbrev pub composed : {L : Type 0} → (L → L → L) → L → List L → ℕ → ℕ → List L
composed op d board f g = slice_set board (f - 1) (op (label d board f) (label d board g))

-- cut c is reduced
pub data CutStep {L : Type 0} (op : L → L → L) (d : L) (c : ℕ) (ls : List Link) (board : List L) (ls' : List Link) (board' : List L) : Type 0 where
  tensor_par : (t p x y l r m s : ℕ) → OfTensorAndPar ls c t p x y l r m s → ls' ≡ parted ls c t p l r m s → board' ≡ board → CutStep op d c ls board ls' board'
  wires : (f g p q a p₂ q₂ a₂ : ℕ) → OfWires ls c f g p q a p₂ q₂ a₂ → ls' ≡ wired ls c f g q a p₂ → board' ≡ composed op d board f g → CutStep op d c ls board ls' board'

-- that many steps, one after another, of whichever cuts
pub data Steps {L : Type 0} (op : L → L → L) (d : L) : ℕ → List Link → List L → List Link → List L → Type 0 where
  none : {ls : List Link} {board : List L} → Steps op d zero ls board ls board
  more : {n c : ℕ} {ls ls₁ ls₂ : List Link} {board board₁ board₂ : List L} → CutStep op d c ls board ls₁ board₁ → Steps op d n ls₁ board₁ ls₂ board₂ → Steps op d (suc n) ls board ls₂ board₂
