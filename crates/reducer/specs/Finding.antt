-- What stands above a cut: the reducer's inner function speaks of it.
use Rattle.std.specs.Prelude.{◌≡◌, ℕ, List}
use Rattle.links.specs.declared.link.Link.{Link}
use Rattle.links.specs.declared.link.Link.TheVariants.{Cut}
use Rattle.links.specs.Links.{link_at}
use Rattle.cuts.specs.Steps.{OfTensorAndPar, OfWires}
use Rattle.cuts.specs.Claims.{CutsOneWire}
use Rattle.reducer.specs.declared.found.Found.{Found}
use Rattle.reducer.specs.declared.found.Found.TheVariants.{Compound, Wires, OneWire}

abbrev pub CutAt : List Link → ℕ → ℕ → ℕ → Type 0
CutAt ls c l r = link_at ls c ≡ Cut l r

abbrev pub FoundAt : List Link → ℕ → Found → Type 0
FoundAt ls c (Compound t p l r m s) = (x : ℕ) × (y : ℕ) × OfTensorAndPar ls c t p x y l r m s
FoundAt ls c (Wires f g e) = (p : ℕ) × (q : ℕ) × (a : ℕ) × (q₂ : ℕ) × (a₂ : ℕ) × OfWires ls c f g p q a e q₂ a₂
FoundAt ls c OneWire = CutsOneWire ls c
