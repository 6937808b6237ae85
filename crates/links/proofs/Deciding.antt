-- What refusals speak of can be decided: whether an occurrence stands, is a premise, and whether two are dual.
use Rattle.std.proofs.Common.{◌≡◌, ℕ, zero, suc, ◌<◌, ◌⊎◌, List, length, refl, ap, ◌∙◌, subst, inl, inr, ⊎_elim, arith}
use Rattle.std.proofs.lemmas.List.{get_or_past}
use Rattle.std.proofs.lemmas.Bool.{cases_eq, cases_lt}
use Rattle.links.specs.declared.link.Link.{Link}
use Rattle.links.specs.declared.link.Link.TheVariants.{Empty, Axiom, Tensor, Par, Cut}
use Rattle.links.specs.Links.{link_at, Concludes, Uses, Stands, Premise}
use Rattle.links.specs.Formulas.{Formula, atom, co_atom, tensor, par, dual_of, Reads, Dual}
use Rattle.links.specs.Facts.{Facts}
use Rattle.links.proofs.Reading.{one_formula_lem}

abbrev pub Dec : Type 0 → Type 0
Dec P = P ⊎ (P → ⊥)

pub stable : {P : Type 0} → Dec P → ((P → ⊥) → ⊥) → P
stable (inl p) h = p
stable (inr n) h = absurd (h n)

pub both : {P Q : Type 0} → Dec P → Dec Q → Dec (P ⊎ Q)
both (inl p) q = inl (inl p)
both (inr p) (inl q) = inl (inr q)
both (inr p) (inr q) = inr (λ h. ⊎_elim p q h)

pub opposite : {P : Type 0} → Dec P → Dec (P → ⊥)
opposite (inl p) = inr (λ n. n p)
opposite (inr n) = inl n

pub less : (m n : ℕ) → Dec (m < n)
less m n = ⊎_elim (λ h. inl h) (λ h. inr (λ l. omega arith)) (cases_lt m n)

pub concludes : (z : Link) (o : ℕ) → Dec (Concludes z o)
concludes Empty o = inr (λ h. h)
concludes (Axiom p q a) o = both (cases_eq p o) (cases_eq q o)
concludes (Tensor l r t) o = cases_eq t o
concludes (Par l r t) o = cases_eq t o
concludes (Cut l r) o = inr (λ h. h)

pub uses : (z : Link) (o : ℕ) → Dec (Uses z o)
uses Empty o = inr (λ h. h)
uses (Axiom p q a) o = inr (λ h. h)
uses (Tensor l r t) o = both (cases_eq l o) (cases_eq r o)
uses (Par l r t) o = both (cases_eq l o) (cases_eq r o)
uses (Cut l r) o = both (cases_eq l o) (cases_eq r o)

-- some slot holds a link that is P
module _ (P : Link → Type 0) (P-dec : (z : Link) → Dec (P z)) (bare : P Empty → ⊥) (ls : List Link) where
  below : (n : ℕ) → ((k : ℕ) × P (link_at ls k)) ⊎ ((k : ℕ) → k < n → P (link_at ls k) → ⊥)
  below zero = inr (λ k l. omega arith)
  below (suc n) = elim (below n) [
    | inl h ↦ inl h
    | inr h ↦ elim (P-dec (link_at ls n)) [
      | inl p ↦ inl (n, p)
      | inr nay ↦ inr (λ k l p. ⊎_elim (λ e. nay (subst (λ (j : ℕ). P (link_at ls j)) e p)) (λ ne. h k (omega (arith, ne)) p) (cases_eq k n))
    ]
  ]

  pub some : Dec ((k : ℕ) × P (link_at ls k))
  some = elim (below (length ls)) [
    | inl h ↦ inl h
    | inr h ↦ inr (λ s. ⊎_elim (λ l. h s.0 l s.1) (λ g. bare (subst P (get_or_past ls s.0 Empty g) s.1)) (cases_lt s.0 (length ls)))
  ]

pub stands : (ls : List Link) (o : ℕ) → Dec (Stands ls o)
stands ls o = some (λ z. Concludes z o) (λ z. concludes z o) (λ h. h) ls

pub premise : (ls : List Link) (o : ℕ) → Dec (Premise ls o)
premise ls o = some (λ z. Uses z o) (λ z. uses z o) (λ h. h) ls

pub is_empty : (z : Link) → Dec (z ≡ Empty)
is_empty Empty = inl refl
is_empty (Axiom p q a) = inr (λ e. let z : ◌≡◌ {A = ℕ} 0 1 = cc in omega arith)
is_empty (Tensor l r o) = inr (λ e. let z : ◌≡◌ {A = ℕ} 0 1 = cc in omega arith)
is_empty (Par l r o) = inr (λ e. let z : ◌≡◌ {A = ℕ} 0 1 = cc in omega arith)
is_empty (Cut l r) = inr (λ e. let z : ◌≡◌ {A = ℕ} 0 1 = cc in omega arith)

-- a formula is another or it is not
pub same_formula : (F G : Formula) → Dec (F ≡ G)
same_formula (atom x) (atom y) = ⊎_elim (λ e. inl (ap atom e)) (λ ne. inr (λ e. let z : x ≡ y = cc in ne z)) (cases_eq x y)
same_formula (atom x) (co_atom y) = inr (λ e. let z : ◌≡◌ {A = ℕ} 0 1 = cc in omega arith)
same_formula (atom x) (tensor A B) = inr (λ e. let z : ◌≡◌ {A = ℕ} 0 1 = cc in omega arith)
same_formula (atom x) (par A B) = inr (λ e. let z : ◌≡◌ {A = ℕ} 0 1 = cc in omega arith)
same_formula (co_atom x) (co_atom y) = ⊎_elim (λ e. inl (ap co_atom e)) (λ ne. inr (λ e. let z : x ≡ y = cc in ne z)) (cases_eq x y)
same_formula (co_atom x) (atom y) = inr (λ e. let z : ◌≡◌ {A = ℕ} 0 1 = cc in omega arith)
same_formula (co_atom x) (tensor A B) = inr (λ e. let z : ◌≡◌ {A = ℕ} 0 1 = cc in omega arith)
same_formula (co_atom x) (par A B) = inr (λ e. let z : ◌≡◌ {A = ℕ} 0 1 = cc in omega arith)
same_formula (tensor A B) (atom x) = inr (λ e. let z : ◌≡◌ {A = ℕ} 0 1 = cc in omega arith)
same_formula (tensor A B) (co_atom x) = inr (λ e. let z : ◌≡◌ {A = ℕ} 0 1 = cc in omega arith)
same_formula (tensor A B) (par C D) = inr (λ e. let z : ◌≡◌ {A = ℕ} 0 1 = cc in omega arith)
same_formula (tensor A B) (tensor C D) = elim (same_formula A C) [
  | inl e ↦ elim (same_formula B D) [ inl f ↦ inl cc | inr nay ↦ inr (λ g. let z : B ≡ D = cc in nay z) ]
  | inr nay ↦ inr (λ g. let z : A ≡ C = cc in nay z)
]
same_formula (par A B) (atom x) = inr (λ e. let z : ◌≡◌ {A = ℕ} 0 1 = cc in omega arith)
same_formula (par A B) (co_atom x) = inr (λ e. let z : ◌≡◌ {A = ℕ} 0 1 = cc in omega arith)
same_formula (par A B) (tensor C D) = inr (λ e. let z : ◌≡◌ {A = ℕ} 0 1 = cc in omega arith)
same_formula (par A B) (par C D) = elim (same_formula A C) [
  | inl e ↦ elim (same_formula B D) [ inl f ↦ inl cc | inr nay ↦ inr (λ g. let z : B ≡ D = cc in nay z) ]
  | inr nay ↦ inr (λ g. let z : A ≡ C = cc in nay z)
]

-- whether two standing occurrences are dual
pub dual : (ls : List Link) → Facts ls → (a b : ℕ) → Stands ls a → Stands ls b → Dec (Dual ls a b)
dual ls n a b sa sb =
    let F = n.has_formula a sa in
    let G = n.has_formula b sb in
    elim (same_formula G.0 (dual_of F.0)) [
      | inl e ↦ inl (F.0, F.1, subst (λ (H : Formula). Reads ls b H) e G.1)
      | inr nay ↦ inr (λ d. nay (one_formula_lem ls n b (dual_of d.0) G.0 d.2 G.1 ∙ ap dual_of (one_formula_lem ls n a F.0 d.0 F.1 d.1)))
    ]
