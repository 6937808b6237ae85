-- The structure facts: what holds of every structure that a bench can hold, each rule by its own name.
use Rattle.std.specs.Prelude.{◌≡◌, ℕ, ◌≤◌, ◌≢◌, List}
use Rattle.links.specs.declared.link.Link.{Link}
use Rattle.links.specs.declared.link.Link.TheVariants.{Empty, Axiom, Tensor, Par, Cut}
use Rattle.links.specs.Links.{link_at, Concludes, Uses, Stands}
use Rattle.links.specs.Formulas.{Formula, Reads, Dual}
use Rattle.links.specs.Above.{Above}

-- from 1 to most
abbrev pub Within : ℕ → ℕ → Type 0
Within most n = (1 ≤ n) × (n ≤ most)

-- the two ends of a wire differ, and so do the two premises of any other link
abbrev pub EndsDiffer : Link → Type 0
EndsDiffer Empty = Unit {0}
EndsDiffer (Axiom p q a) = p ≢ q
EndsDiffer (Tensor l r c) = l ≢ r
EndsDiffer (Par l r c) = l ≢ r
EndsDiffer (Cut l r) = l ≢ r

-- links are numbered 1 to 256, occurrences 1 to 512, atoms 1 to 1000
abbrev pub InRange : ℕ → Link → Type 0
InRange n Empty = Unit {0}
InRange n (Axiom p q a) = Within 256 n × Within 512 p × Within 512 q × Within 1000 a
InRange n (Tensor l r c) = Within 256 n × Within 512 l × Within 512 r × Within 512 c
InRange n (Par l r c) = Within 256 n × Within 512 l × Within 512 r × Within 512 c
InRange n (Cut l r) = Within 256 n × Within 512 l × Within 512 r

pub record Facts (ls : List Link) : Type 0 where
  -- an occurrence that stands is concluded by exactly one link
  pub concluded_once : (m n o : ℕ) → Concludes (link_at ls m) o → Concludes (link_at ls n) o → m ≡ n
  -- it is a premise of at most one
  pub used_once : (m n o : ℕ) → Uses (link_at ls m) o → Uses (link_at ls n) o → m ≡ n
  pub ends_differ : (n : ℕ) → EndsDiffer (link_at ls n)
  -- every premise of a standing link stands
  pub premises_stand : (n o : ℕ) → Uses (link_at ls n) o → Stands ls o
  -- no link is above itself; so every occurrence that stands has a formula
  pub not_above_itself : (n : ℕ) → Above ls n n → ⊥
  pub has_formula : (o : ℕ) → Stands ls o → (F : Formula) × Reads ls o F
  -- the premises of every cut are dual
  pub cuts_dual : (n a b : ℕ) → link_at ls n ≡ Cut a b → Dual ls a b
  pub in_range : (n : ℕ) → InRange n (link_at ls n)
