-- Formulas, and the formula of an occurrence, read off the links above it.
use Rattle.std.specs.Prelude.{◌≡◌, ℕ, ◌+◌, List}
use Rattle.links.specs.declared.link.Link.{Link}
use Rattle.links.specs.declared.link.Link.TheVariants.{Axiom, Tensor, Par}
use Rattle.links.specs.Links.{link_at}

pub data Formula : Type 0 where
  atom : ℕ → Formula
  co_atom : ℕ → Formula
  tensor : Formula → Formula → Formula
  par : Formula → Formula → Formula

-- the dual of A ⊗ B is A-dual ⅋ B-dual in the same order, and the reverse
abbrev pub dual_of : Formula → Formula
dual_of (atom x) = co_atom x
dual_of (co_atom x) = atom x
dual_of (tensor F G) = par (dual_of F) (dual_of G)
dual_of (par F G) = tensor (dual_of F) (dual_of G)

-- how many tensors and pars a formula has
abbrev pub connectives : Formula → ℕ
connectives (atom x) = 0
connectives (co_atom x) = 0
connectives (tensor F G) = connectives F + connectives G + 1
connectives (par F G) = connectives F + connectives G + 1

-- F is the formula of the occurrence o
abbrev pub Reads : List Link → ℕ → Formula → Type 0
Reads ls o (atom x) = (n : ℕ) × (q : ℕ) × (link_at ls n ≡ Axiom o q x)
Reads ls o (co_atom x) = (n : ℕ) × (p : ℕ) × (link_at ls n ≡ Axiom p o x)
Reads ls o (tensor F G) = (n : ℕ) × (l : ℕ) × (r : ℕ) × (link_at ls n ≡ Tensor l r o) × Reads ls l F × Reads ls r G
Reads ls o (par F G) = (n : ℕ) × (l : ℕ) × (r : ℕ) × (link_at ls n ≡ Par l r o) × Reads ls l F × Reads ls r G

-- the formulas of a and b are dual
abbrev pub Dual : List Link → ℕ → ℕ → Type 0
Dual ls a b = (F : Formula) × Reads ls a F × Reads ls b (dual_of F)
