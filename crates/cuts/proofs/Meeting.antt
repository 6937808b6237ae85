-- A cut uses both its premises, and they are dual, whichever side each stands on.
use Rattle.std.proofs.Common.{ℕ, List, refl, inl, inr}
use Rattle.links.specs.declared.link.Link.{Link}
use Rattle.links.specs.declared.link.Link.TheVariants.{Cut}
use Rattle.links.specs.Links.{link_at, Uses}
use Rattle.links.specs.Formulas.{Dual}
use Rattle.links.specs.Facts.{Facts}
use Rattle.links.proofs.Reading.{uses, dual_sym}
use Rattle.cuts.specs.Steps.{Meets}

module _ (ls : List Link) (n : Facts ls) where
  pub meets_left : (c x y : ℕ) → Meets (link_at ls c) x y → Uses (link_at ls c) x
  meets_left c x y (inl e) = uses x (Cut x y) e (inl refl)
  meets_left c x y (inr e) = uses x (Cut y x) e (inr refl)

  pub meets_right : (c x y : ℕ) → Meets (link_at ls c) x y → Uses (link_at ls c) y
  meets_right c x y (inl e) = uses y (Cut x y) e (inr refl)
  meets_right c x y (inr e) = uses y (Cut y x) e (inl refl)

  pub meets_dual : (c x y : ℕ) → Meets (link_at ls c) x y → Dual ls x y
  meets_dual c x y (inl e) = n.cuts_dual c x y e
  meets_dual c x y (inr e) = dual_sym ls y x (n.cuts_dual c y x e)
