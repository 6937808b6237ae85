-- Where every standing occurrence has a formula, no link is above itself: formulas fall on the way up.
use Rattle.std.proofs.Common.{◌≡◌, ℕ, zero, suc, ◌<◌, List, refl, ap, ◌∙◌, subst, inl, inr, ⊎_elim, arith}
use Rattle.links.specs.declared.link.Link.{Link}
use Rattle.links.specs.declared.link.Link.TheVariants.{Axiom, Tensor, Par, Cut}
use Rattle.links.specs.Links.{link_at, Uses, Concludes, Stands}
use Rattle.links.specs.Formulas.{Formula, atom, co_atom, tensor, par, connectives, Reads, Dual}
use Rattle.links.specs.Above.{Above}
use Rattle.links.specs.Above.Above.{direct, further}
use Rattle.links.specs.Facts.{EndsDiffer, InRange, Facts}
use Rattle.links.proofs.Reading.{concl}

module _ (ls : List Link) (single : (i j o : ℕ) → Concludes (link_at ls i) o → Concludes (link_at ls j) o → i ≡ j) where
  pub above_trans : {i j : ℕ} (k : ℕ) → Above ls i j → Above ls j k → Above ls i k
  above_trans k h (direct o u c) = further o u c h
  above_trans k h (further o u c g) = further o u c (above_trans _ h g)

  above_end : {i k : ℕ} → Above ls i k → (o : ℕ) × Concludes (link_at ls i) o
  above_end (direct o u c) = (o, c)
  above_end (further o u c g) = above_end g

  -- a premise of the link has a smaller formula than the conclusion
  smaller : (k o o₂ : ℕ) (F : Formula) → Concludes (link_at ls k) o → Uses (link_at ls k) o₂ → Reads ls o F → (G : Formula) × Reads ls o₂ G × (connectives G < connectives F)
  smaller k o o₂ (atom x) c u h =
      let e = single k h.0 o c (concl o (Axiom o h.1 x) h.2 (inl refl)) in
      absurd (subst (λ (z : Link). Uses z o₂) (ap (λ (i : ℕ). link_at ls i) e ∙ h.2) u)
  smaller k o o₂ (co_atom x) c u h =
      let e = single k h.0 o c (concl o (Axiom h.1 o x) h.2 (inr refl)) in
      absurd (subst (λ (z : Link). Uses z o₂) (ap (λ (i : ℕ). link_at ls i) e ∙ h.2) u)
  smaller k o o₂ (tensor A B) c u h =
      let e = single k h.0 o c (concl o (Tensor h.1 h.2 o) h.3 refl) in
      ⊎_elim
      (λ q. (A, subst (λ (i : ℕ). Reads ls i A) q h.4, omega arith))
      (λ q. (B, subst (λ (i : ℕ). Reads ls i B) q h.5, omega arith))
      (subst (λ (z : Link). Uses z o₂) (ap (λ (i : ℕ). link_at ls i) e ∙ h.3) u)
  smaller k o o₂ (par A B) c u h =
      let e = single k h.0 o c (concl o (Par h.1 h.2 o) h.3 refl) in
      ⊎_elim
      (λ q. (A, subst (λ (i : ℕ). Reads ls i A) q h.4, omega arith))
      (λ q. (B, subst (λ (i : ℕ). Reads ls i B) q h.5, omega arith))
      (subst (λ (z : Link). Uses z o₂) (ap (λ (i : ℕ). link_at ls i) e ∙ h.3) u)

  descent : {i k : ℕ} → Above ls i k → (o : ℕ) (F : Formula) → Concludes (link_at ls k) o → Reads ls o F → (o₂ : ℕ) × (G : Formula) × Concludes (link_at ls i) o₂ × Reads ls o₂ G × (connectives G < connectives F)
  descent {i} {k} (direct o₂ u c) o F d h = let g = smaller k o o₂ F d u h in (o₂, g.0, c, g.1, g.2)
  descent {i} {k} (further o₂ u c rest) o F d h =
      let g = smaller k o o₂ F d u h in
      let b = descent rest o₂ g.0 c g.1 in
      let g2 = g.2 in let b4 = b.4 in
      (b.0, b.1, b.2, b.3, omega arith)

  no_descent : (n k o : ℕ) (F : Formula) → connectives F < n → Above ls k k → Concludes (link_at ls k) o → Reads ls o F → ⊥
  no_descent zero k o F l a c h = omega arith
  no_descent (suc n) k o F l a c h = let b = descent a o F c h in let b4 = b.4 in no_descent n k b.0 b.1 (omega arith) a b.2 b.3

  pub formulas_none_above : ((o : ℕ) → Stands ls o → (F : Formula) × Reads ls o F) → (n : ℕ) → Above ls n n → ⊥
  formulas_none_above has k a =
      let e = above_end a in
      let F = has e.0 (k, e.1) in
      no_descent (suc (connectives F.0)) k e.0 F.0 (omega arith) a e.1 F.1

-- all the facts but that no link is above itself
pub record Formed (ls : List Link) : Type 0 where
  pub concluded_once : (m n o : ℕ) → Concludes (link_at ls m) o → Concludes (link_at ls n) o → m ≡ n
  pub used_once : (m n o : ℕ) → Uses (link_at ls m) o → Uses (link_at ls n) o → m ≡ n
  pub ends_differ : (n : ℕ) → EndsDiffer (link_at ls n)
  pub premises_stand : (n o : ℕ) → Uses (link_at ls n) o → Stands ls o
  pub has_formula : (o : ℕ) → Stands ls o → (F : Formula) × Reads ls o F
  pub cuts_dual : (n a b : ℕ) → link_at ls n ≡ Cut a b → Dual ls a b
  pub in_range : (n : ℕ) → InRange n (link_at ls n)

-- that one follows
pub facts_of : (ls : List Link) → Formed ls → Facts ls
facts_of ls f =
    record {
      concluded_once = f.concluded_once;
      used_once = f.used_once;
      ends_differ = f.ends_differ;
      premises_stand = f.premises_stand;
      not_above_itself = formulas_none_above ls f.concluded_once f.has_formula;
      has_formula = f.has_formula;
      cuts_dual = f.cuts_dual;
      in_range = f.in_range;
    }
