-- What is proved of structures, each named by the contract of a public function.
use Rattle.std.specs.Prelude.{◌≡◌, ℕ, ◌↔◌, List}
use Rattle.links.specs.declared.link.Link.{Link}
use Rattle.links.specs.Links.{link_at, Concludes, Uses, Stands}
use Rattle.links.specs.Formulas.{Formula, dual_of, Reads}
use Rattle.links.specs.Above.{Above}
use Rattle.links.specs.Facts.{EndsDiffer, Facts}

-- where each occurrence is concluded once and premises stand, that every standing occurrence has a formula says
-- just that no link is above itself
abbrev pub FormulasExactlyWhenNotAbove : Type 0
FormulasExactlyWhenNotAbove = (ls : List Link) → ((m n o : ℕ) → Concludes (link_at ls m) o → Concludes (link_at ls n) o → m ≡ n) → ((n : ℕ) → EndsDiffer (link_at ls n)) → ((n o : ℕ) → Uses (link_at ls n) o → Stands ls o) → ((o : ℕ) → Stands ls o → (F : Formula) × Reads ls o F) ↔ ((n : ℕ) → Above ls n n → ⊥)

-- an occurrence has one formula
abbrev pub OneFormula : Type 0
OneFormula = (ls : List Link) → Facts ls → (o : ℕ) (F G : Formula) → Reads ls o F → Reads ls o G → G ≡ F

-- a formula is its dual's dual
abbrev pub DualOfDual : Type 0
DualOfDual = (F : Formula) → dual_of (dual_of F) ≡ F
