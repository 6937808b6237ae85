-- What a link says of the formula of its conclusion, and that an occurrence has one formula.
-- `concl` and `uses` carry a fact over the equation that names a link.
use Rattle.std.proofs.Common.{◌≡◌, ℕ, ◌<◌, ◌≢◌, List, length, sym, refl, ap, ◌∙◌, subst, inl, inr, ⊎_elim, arith}
use Rattle.std.proofs.lemmas.List.{get_or_past}
use Rattle.std.proofs.lemmas.Bool.{cases_lt}
use Rattle.links.specs.declared.link.Link.{Link}
use Rattle.links.specs.declared.link.Link.TheVariants.{Empty, Axiom, Tensor, Par}
use Rattle.links.specs.Links.{link_at, Concludes, Uses}
use Rattle.links.specs.Formulas.{Formula, atom, co_atom, tensor, par, dual_of, Reads, Dual}
use Rattle.links.specs.Facts.{EndsDiffer, Facts}

pub concl : (o : ℕ) {k : Link} (l : Link) → k ≡ l → Concludes l o → Concludes k o
concl o l e h = subst (λ (x : Link). Concludes x o) (sym e) h

pub uses : (o : ℕ) {k : Link} (l : Link) → k ≡ l → Uses l o → Uses k o
uses o l e h = subst (λ (x : Link). Uses x o) (sym e) h

-- a slot that holds a link is in the row
pub room : (ls : List Link) (k : ℕ) → (link_at ls k ≡ Empty → ⊥) → k < length ls
room ls k n = ⊎_elim (λ h. h) (λ h. absurd (n (get_or_past ls k Empty h))) (cases_lt k (length ls))

pub dual_of_dual_lem : (F : Formula) → dual_of (dual_of F) ≡ F
dual_of_dual_lem (atom x) = refl
dual_of_dual_lem (co_atom x) = refl
dual_of_dual_lem (tensor F G) = let a = dual_of_dual_lem F in let b = dual_of_dual_lem G in cc
dual_of_dual_lem (par F G) = let a = dual_of_dual_lem F in let b = dual_of_dual_lem G in cc

pub dual_sym : (ls : List Link) (a b : ℕ) → Dual ls a b → Dual ls b a
dual_sym ls a b h = (dual_of h.0, h.2, subst (λ (F : Formula). Reads ls a F) (sym (dual_of_dual_lem h.0)) h.1)

-- what a link of a structure with the facts says of the formula of its conclusion
module _ (ls : List Link) (n : Facts ls) where
  same_link : (i j o : ℕ) (k l : Link) → link_at ls i ≡ k → link_at ls j ≡ l → Concludes k o → Concludes l o → k ≡ l
  same_link i j o k l e f c d = sym e ∙ ap (λ (x : ℕ). link_at ls x) (n.concluded_once i j o (concl o k e c) (concl o l f d)) ∙ f

  pub two_ends : (k p q a : ℕ) → link_at ls k ≡ Axiom p q a → p ≢ q
  two_ends k p q a e = subst EndsDiffer e (n.ends_differ k)

  pub top_tensor : (t l r x : ℕ) (F : Formula) → link_at ls t ≡ Tensor l r x → Reads ls x F → (A : Formula) × (B : Formula) × (F ≡ tensor A B) × Reads ls l A × Reads ls r B
  top_tensor t l r x (atom z) e h = let s = same_link t h.0 x (Tensor l r x) (Axiom x h.1 z) e h.2 refl (inl refl) in let z : ◌≡◌ {A = ℕ} 0 1 = cc in absurd (omega arith)
  top_tensor t l r x (co_atom z) e h = let s = same_link t h.0 x (Tensor l r x) (Axiom h.1 x z) e h.2 refl (inr refl) in let z : ◌≡◌ {A = ℕ} 0 1 = cc in absurd (omega arith)
  top_tensor t l r x (tensor A B) e h =
      let s = same_link t h.0 x (Tensor l r x) (Tensor h.1 h.2 x) e h.3 refl refl in
      let el : h.1 ≡ l = cc in
      let er : h.2 ≡ r = cc in
      (A, B, refl, subst (λ (o : ℕ). Reads ls o A) el h.4, subst (λ (o : ℕ). Reads ls o B) er h.5)
  top_tensor t l r x (par A B) e h = let s = same_link t h.0 x (Tensor l r x) (Par h.1 h.2 x) e h.3 refl refl in let z : ◌≡◌ {A = ℕ} 0 1 = cc in absurd (omega arith)

  pub top_par : (t l r x : ℕ) (F : Formula) → link_at ls t ≡ Par l r x → Reads ls x F → (A : Formula) × (B : Formula) × (F ≡ par A B) × Reads ls l A × Reads ls r B
  top_par t l r x (atom z) e h = let s = same_link t h.0 x (Par l r x) (Axiom x h.1 z) e h.2 refl (inl refl) in let z : ◌≡◌ {A = ℕ} 0 1 = cc in absurd (omega arith)
  top_par t l r x (co_atom z) e h = let s = same_link t h.0 x (Par l r x) (Axiom h.1 x z) e h.2 refl (inr refl) in let z : ◌≡◌ {A = ℕ} 0 1 = cc in absurd (omega arith)
  top_par t l r x (par A B) e h =
      let s = same_link t h.0 x (Par l r x) (Par h.1 h.2 x) e h.3 refl refl in
      let el : h.1 ≡ l = cc in
      let er : h.2 ≡ r = cc in
      (A, B, refl, subst (λ (o : ℕ). Reads ls o A) el h.4, subst (λ (o : ℕ). Reads ls o B) er h.5)
  top_par t l r x (tensor A B) e h = let s = same_link t h.0 x (Par l r x) (Tensor h.1 h.2 x) e h.3 refl refl in let z : ◌≡◌ {A = ℕ} 0 1 = cc in absurd (omega arith)

  pub top_pos : (t p q a : ℕ) (F : Formula) → link_at ls t ≡ Axiom p q a → Reads ls p F → F ≡ atom a
  top_pos t p q a (atom z) e h = let s = same_link t h.0 p (Axiom p q a) (Axiom p h.1 z) e h.2 (inl refl) (inl refl) in cc
  top_pos t p q a (co_atom z) e h = let s = same_link t h.0 p (Axiom p q a) (Axiom h.1 p z) e h.2 (inl refl) (inr refl) in let d : p ≡ q = cc in absurd (two_ends t p q a e d)
  top_pos t p q a (tensor A B) e h = let s = same_link t h.0 p (Axiom p q a) (Tensor h.1 h.2 p) e h.3 (inl refl) refl in let z : ◌≡◌ {A = ℕ} 0 1 = cc in absurd (omega arith)
  top_pos t p q a (par A B) e h = let s = same_link t h.0 p (Axiom p q a) (Par h.1 h.2 p) e h.3 (inl refl) refl in let z : ◌≡◌ {A = ℕ} 0 1 = cc in absurd (omega arith)

  pub top_neg : (t p q a : ℕ) (F : Formula) → link_at ls t ≡ Axiom p q a → Reads ls q F → F ≡ co_atom a
  top_neg t p q a (co_atom z) e h = let s = same_link t h.0 q (Axiom p q a) (Axiom h.1 q z) e h.2 (inr refl) (inr refl) in cc
  top_neg t p q a (atom z) e h = let s = same_link t h.0 q (Axiom p q a) (Axiom q h.1 z) e h.2 (inr refl) (inl refl) in let d : p ≡ q = cc in absurd (two_ends t p q a e d)
  top_neg t p q a (tensor A B) e h = let s = same_link t h.0 q (Axiom p q a) (Tensor h.1 h.2 q) e h.3 (inr refl) refl in let z : ◌≡◌ {A = ℕ} 0 1 = cc in absurd (omega arith)
  top_neg t p q a (par A B) e h = let s = same_link t h.0 q (Axiom p q a) (Par h.1 h.2 q) e h.3 (inr refl) refl in let z : ◌≡◌ {A = ℕ} 0 1 = cc in absurd (omega arith)

  -- an occurrence has one formula
  pub one_formula_lem : (o : ℕ) (F G : Formula) → Reads ls o F → Reads ls o G → G ≡ F
  one_formula_lem o (atom x) G f g = top_pos f.0 o f.1 x G f.2 g
  one_formula_lem o (co_atom x) G f g = top_neg f.0 f.1 o x G f.2 g
  one_formula_lem o (tensor A B) G f g =
      let t = top_tensor f.0 f.1 f.2 o G f.3 g in
      let ea = one_formula_lem f.1 A t.0 f.4 t.3 in
      let eb = one_formula_lem f.2 B t.1 f.5 t.4 in
      let et = t.2 in cc
  one_formula_lem o (par A B) G f g =
      let t = top_par f.0 f.1 f.2 o G f.3 g in
      let ea = one_formula_lem f.1 A t.0 f.4 t.3 in
      let eb = one_formula_lem f.2 B t.1 f.5 t.4 in
      let et = t.2 in cc
