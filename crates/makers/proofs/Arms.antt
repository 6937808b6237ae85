-- What an arm that takes two kinds of link tells of the link, in the form in which the check states it.
use Rattle.std.proofs.Common.{◌≡◌, ℕ, true, ◌⊎◌, [], ◌∷◌, ap, inl, inr}
use Rattle.links.specs.declared.link.Link.{Link}
use Rattle.links.specs.declared.link.Link.TheVariants.{Empty, Tensor, Par, Cut}
use Rattle.switchings.specs.Switchings.{Side}
use Rattle.switchings.specs.Edges.{premises, conclusions, kept, is_join}

-- a tensor or a par of the conclusion o
abbrev pub OfOne : Link → ℕ → Type 0
OfOne k o = ((l : ℕ) × (r : ℕ) × (k ≡ Tensor l r o)) ⊎ ((l : ℕ) × (r : ℕ) × (k ≡ Par l r o))

-- no link, or a cut: nothing is concluded
abbrev pub OfNone : Link → Type 0
OfNone k = (k ≡ Empty) ⊎ ((l : ℕ) × (r : ℕ) × (k ≡ Cut l r))

-- a tensor or a cut of the premises l and r
abbrev pub OfTwo : Link → ℕ → ℕ → Type 0
OfTwo k l r = ((c : ℕ) × (k ≡ Tensor l r c)) ⊎ (k ≡ Cut l r)

pub one_listed : (k : Link) (o : ℕ) → OfOne k o → conclusions k ≡ o ∷ []
one_listed k o (inl w) = ap conclusions w.2
one_listed k o (inr w) = ap conclusions w.2

pub none_listed : (k : Link) → OfNone k → conclusions k ≡ []
none_listed k (inl e) = ap conclusions e
none_listed k (inr w) = ap conclusions w.2

pub two_kept : (side : Side) (k : Link) (l r : ℕ) → OfTwo k l r → kept side k ≡ l ∷ r ∷ []
two_kept side k l r (inl w) = ap (kept side) w.1
two_kept side k l r (inr e) = ap (kept side) e

pub two_premises : (k : Link) (l r : ℕ) → OfTwo k l r → premises k ≡ l ∷ r ∷ []
two_premises k l r (inl w) = ap premises w.1
two_premises k l r (inr e) = ap premises e

pub two_join : (k : Link) (l r : ℕ) → OfTwo k l r → is_join k ≡ true
two_join k l r (inl w) = ap is_join w.1
two_join k l r (inr e) = ap is_join e
