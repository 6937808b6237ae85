-- Matching ends, chains of wires, and the labels of a chain composed in its order.
use Rattle.std.specs.Prelude.{◌≡◌, ℕ, ◌⊎◌, List, [], ◌∷◌}
use Rattle.links.specs.declared.link.Link.{Link}
use Rattle.links.specs.declared.link.Link.TheVariants.{Axiom, Tensor, Par}
use Rattle.links.specs.Links.{link_at}
use Rattle.switchings.specs.Switchings.{Side, pick}
use Rattle.cuts.specs.Steps.{Meets, label}

-- the link is a tensor or a par with premises l and r and conclusion o
abbrev pub Joins : Link → ℕ → ℕ → ℕ → Type 0
Joins k l r o = (k ≡ Tensor l r o) ⊎ (k ≡ Par l r o)

-- e is the occurrence at the left-right path above o
abbrev pub Lies : List Link → List Side → ℕ → ℕ → Type 0
Lies ls [] o e = o ≡ e
Lies ls (s ∷ path) o e = (n : ℕ) × (l : ℕ) × (r : ℕ) × Joins (link_at ls n) l r o × Lies ls path (pick s l r) e

-- e lies above a cut
pub record AboveCut (ls : List Link) (e : ℕ) : Type 0 where
  pub c : ℕ
  pub a : ℕ
  pub b : ℕ
  pub path : List Side
  pub cut : Meets (link_at ls c) a b
  pub lies : Lies ls path a e

-- d and e match: they lie at the same path above the two premises of one cut
pub record Match (ls : List Link) (d e : ℕ) : Type 0 where
  pub c : ℕ
  pub a : ℕ
  pub b : ℕ
  pub path : List Side
  pub cut : Meets (link_at ls c) a b
  pub one : Lies ls path a d
  pub other : Lies ls path b e

-- from a positive end above a cut the way goes on with the wire of the matching negative end; it ends at a wire whose
-- positive end is above no cut
pub data Way (ls : List Link) : ℕ → List ℕ → Type 0 where
  last : {w p q a : ℕ} → link_at ls w ≡ Axiom p q a → (AboveCut ls p → ⊥) → Way ls w []
  next : {w p q a v p₂ q₂ a₂ : ℕ} {vs : List ℕ} → link_at ls w ≡ Axiom p q a → link_at ls v ≡ Axiom p₂ q₂ a₂ → Match ls p q₂ → Way ls v vs → Way ls w (v ∷ vs)

-- the chain of w and then ws starts at w, whose negative end is above no cut
pub record Chain (ls : List Link) (w : ℕ) (ws : List ℕ) : Type 0 where
  pub p : ℕ
  pub q : ℕ
  pub a : ℕ
  pub start : link_at ls w ≡ Axiom p q a
  pub free : AboveCut ls q → ⊥
  pub way : Way ls w ws

-- the labels of w and then ws, composed in that order
abbrev pub along : {L : Type 0} → (L → L → L) → L → List L → ℕ → List ℕ → L
along op d board w [] = label d board w
along op d board w (v ∷ vs) = op (label d board w) (along op d board v vs)

-- the last of w and then ws
abbrev pub last_of : ℕ → List ℕ → ℕ
last_of w [] = w
last_of w (v ∷ vs) = last_of v vs

-- p is the positive end of the wire w, and q its negative end
abbrev pub Positive : List Link → ℕ → ℕ → Type 0
Positive ls w p = (q : ℕ) × (a : ℕ) × (link_at ls w ≡ Axiom p q a)

abbrev pub Negative : List Link → ℕ → ℕ → Type 0
Negative ls w q = (p : ℕ) × (a : ℕ) × (link_at ls w ≡ Axiom p q a)

-- the label is that of the chain that the wire w starts; p and q are the ends of the chain
pub record From {L : Type 0} (op : L → L → L) (d : L) (ls : List Link) (board : List L) (w : ℕ) (x : L) (p q : ℕ) : Type 0 where
  pub wires : List ℕ
  pub chain : Chain ls w wires
  pub same : along op d board w wires ≡ x
  pub positive : Positive ls (last_of w wires) p
  pub negative : Negative ls w q
