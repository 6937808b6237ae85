-- A cut of a tensor against a par, and what the structure is after it, slot by slot.
use Rattle.std.proofs.Common.{◌≡◌, ℕ, ◌<◌, ◌≢◌, ◌⊎◌, List, length, set, sym, refl, ap, ◌∙◌, subst, inl, inr, ⊎_elim, arith, length-set}
use Rattle.std.proofs.lemmas.List.{get_or-set_same, get_or-set_other}
use Rattle.std.proofs.lemmas.Bool.{cases_eq}
use Rattle.links.specs.declared.link.Link.{Link}
use Rattle.links.specs.declared.link.Link.TheVariants.{Empty, Axiom, Tensor, Par, Cut}
use Rattle.links.specs.Links.{link_at, Concludes, Uses, Stands}
use Rattle.links.specs.Formulas.{Formula, atom, co_atom, tensor, par, dual_of, Reads, Dual}
use Rattle.links.specs.Facts.{EndsDiffer, InRange, Facts}
use Rattle.links.proofs.Descent.{facts_of}
use Rattle.links.proofs.Reading.{concl, uses, room, top_tensor, top_par}
use Rattle.cuts.specs.Steps.{Meets, OfTensorAndPar, parted}
use Rattle.cuts.proofs.Meeting.{meets_left, meets_right, meets_dual}

pub record Parted (ls ls' : List Link) (c t p x y l r m s : ℕ) : Type 0 where
  pub cut : Meets (link_at ls c) x y
  pub ten : link_at ls t ≡ Tensor l r x
  pub pr : link_at ls p ≡ Par m s y
  pub at_c : link_at ls' c ≡ Empty
  pub at_t : link_at ls' t ≡ Cut l m
  pub at_p : link_at ls' p ≡ Cut r s
  pub rest : (k : ℕ) → k ≢ c → k ≢ t → k ≢ p → link_at ls' k ≡ link_at ls k
  pub t≢c : t ≢ c
  pub p≢c : p ≢ c
  pub p≢t : p ≢ t

apart : (ls : List Link) (i j : ℕ) → (link_at ls i ≡ link_at ls j → ⊥) → i ≢ j
apart ls i j h e = h (ap (λ (k : ℕ). link_at ls k) e)

pub meets_not : (k : Link) (x y : ℕ) → Meets k x y → (l : Link) → k ≡ l → ((a b : ℕ) → l ≡ Cut a b → ⊥) → ⊥
meets_not k x y (inl e) l f h = h x y (sym f ∙ e)
meets_not k x y (inr e) l f h = h y x (sym f ∙ e)

pub no_tensor : (l r o a b : ℕ) → Tensor l r o ≡ Cut a b → ⊥
no_tensor l r o a b e = let z : ◌≡◌ {A = ℕ} 0 1 = cc in omega arith

pub no_par : (l r o a b : ℕ) → Par l r o ≡ Cut a b → ⊥
no_par l r o a b e = let z : ◌≡◌ {A = ℕ} 0 1 = cc in omega arith

pub no_axiom : (l r o a b : ℕ) → Axiom l r o ≡ Cut a b → ⊥
no_axiom l r o a b e = let z : ◌≡◌ {A = ℕ} 0 1 = cc in omega arith

pub slots : (ls ls' : List Link) (c t p x y l r m s : ℕ) → OfTensorAndPar ls c t p x y l r m s → ls' ≡ parted ls c t p l r m s → Parted ls ls' c t p x y l r m s
slots ls ls' c t p x y l r m s h e =
    let t≢c : t ≢ c = λ q. meets_not (link_at ls c) x y h.cut (Tensor l r x) (sym (ap (λ (k : ℕ). link_at ls k) q) ∙ h.tensor) (no_tensor l r x) in
    let p≢c : p ≢ c = λ q. meets_not (link_at ls c) x y h.cut (Par m s y) (sym (ap (λ (k : ℕ). link_at ls k) q) ∙ h.par) (no_par m s y) in
    let p≢t : p ≢ t = λ q. let g = ap (λ (k : ℕ). link_at ls k) q in let a = h.tensor in let b = h.par in let z : ◌≡◌ {A = ℕ} 0 1 = cc in omega arith in
    let rc : c < length ls = room ls c (λ q. meets_not (link_at ls c) x y h.cut Empty q (λ a b f. let z : ◌≡◌ {A = ℕ} 0 1 = cc in omega arith)) in
    let rt : t < length ls = room ls t (λ q. let a = h.tensor in let z : ◌≡◌ {A = ℕ} 0 1 = cc in omega arith) in
    let rp : p < length ls = room ls p (λ q. let a = h.par in let z : ◌≡◌ {A = ℕ} 0 1 = cc in omega arith) in
    let ls1 : List Link = set ls c Empty in
    let ls2 : List Link = set ls1 t (Cut l m) in
    let rt1 : t < length ls1 = omega (arith, length-set ls c Empty) in
    let rp2 : p < length ls2 = omega (arith, length-set ls c Empty, length-set ls1 t (Cut l m)) in
    record {
      cut = h.cut;
      ten = h.tensor;
      pr = h.par;
      at_c = ap (λ (z : List Link). link_at z c) e ∙ get_or-set_other ls2 p c (Cut r s) Empty (λ q. p≢c (sym q)) ∙ get_or-set_other ls1 t c (Cut l m) Empty (λ q. t≢c (sym q)) ∙ get_or-set_same ls c Empty Empty rc;
      at_t = ap (λ (z : List Link). link_at z t) e ∙ get_or-set_other ls2 p t (Cut r s) Empty (λ q. p≢t (sym q)) ∙ get_or-set_same ls1 t (Cut l m) Empty rt1;
      at_p = ap (λ (z : List Link). link_at z p) e ∙ get_or-set_same ls2 p (Cut r s) Empty rp2;
      rest = λ k kc kt kp. ap (λ (z : List Link). link_at z k) e ∙ get_or-set_other ls2 p k (Cut r s) Empty kp ∙ get_or-set_other ls1 t k (Cut l m) Empty kt ∙ get_or-set_other ls c k Empty Empty kc;
      t≢c = t≢c;
      p≢c = p≢c;
      p≢t = p≢t;
    }

-- k is one of the three links, or none of them
pub data Which (c t p k : ℕ) : Type 0 where
  is_c : k ≡ c → Which c t p k
  is_t : k ≡ t → Which c t p k
  is_p : k ≡ p → Which c t p k
  other : k ≢ c → k ≢ t → k ≢ p → Which c t p k

pub which : (c t p k : ℕ) → Which c t p k
which c t p k = elim (cases_eq k c) [
  | inl e ↦ is_c e
  | inr a ↦ elim (cases_eq k t) [
    | inl e ↦ is_t e
    | inr b ↦ elim (cases_eq k p) [ inl e ↦ is_p e | inr d ↦ other a b d ]
  ]
]

module _ (ls ls' : List Link) (c t p x y l r m s : ℕ) (T : Parted ls ls' c t p x y l r m s) (n : Facts ls) where
  to_t : (o : ℕ) → Uses (Tensor l r x) o → Uses (link_at ls t) o
  to_t o u = uses o (Tensor l r x) T.ten u

  to_p : (o : ℕ) → Uses (Par m s y) o → Uses (link_at ls p) o
  to_p o u = uses o (Par m s y) T.pr u

  -- a link that concludes something in the new structure is an old one
  pub old_end : (k o : ℕ) → Concludes (link_at ls' k) o → (k ≢ c) × (k ≢ t) × (k ≢ p) × (link_at ls' k ≡ link_at ls k)
  old_end k o h = elim (which c t p k) [
    | is_c e ↦ absurd (subst (λ (z : Link). Concludes z o) (ap (λ (i : ℕ). link_at ls' i) e ∙ T.at_c) h)
    | is_t e ↦ absurd (subst (λ (z : Link). Concludes z o) (ap (λ (i : ℕ). link_at ls' i) e ∙ T.at_t) h)
    | is_p e ↦ absurd (subst (λ (z : Link). Concludes z o) (ap (λ (i : ℕ). link_at ls' i) e ∙ T.at_p) h)
    | other a b d ↦ (a, b, d, T.rest k a b d)
  ]

  pub end_before : (k o : ℕ) → Concludes (link_at ls' k) o → Concludes (link_at ls k) o
  end_before k o h = subst (λ (z : Link). Concludes z o) (old_end k o h).3 h

  -- x and y are used by the cut alone
  pub only_x : (k o : ℕ) → x ≡ o → Uses (link_at ls k) o → k ≡ c
  only_x k o e u = n.used_once k c o u (subst (λ (z : ℕ). Uses (link_at ls c) z) e (meets_left ls n c x y T.cut))

  pub only_y : (k o : ℕ) → y ≡ o → Uses (link_at ls k) o → k ≡ c
  only_y k o e u = n.used_once k c o u (subst (λ (z : ℕ). Uses (link_at ls c) z) e (meets_right ls n c x y T.cut))

  pub no_end_c : (o : ℕ) → Concludes (link_at ls c) o → ⊥
  no_end_c o h = elim T.cut [
    | inl e ↦ subst (λ (z : Link). Concludes z o) e h
    | inr e ↦ subst (λ (z : Link). Concludes z o) e h
  ]

  -- a link that concludes neither x nor y stays
  pub stays : (k o : ℕ) → o ≢ x → o ≢ y → Concludes (link_at ls k) o → link_at ls' k ≡ link_at ls k
  stays k o nx ny h = elim (which c t p k) [
    | is_c e ↦ absurd (no_end_c o (subst (λ (i : ℕ). Concludes (link_at ls i) o) e h))
    | is_t e ↦ absurd (nx (sym (subst (λ (z : Link). Concludes z o) (ap (λ (i : ℕ). link_at ls i) e ∙ T.ten) h)))
    | is_p e ↦ absurd (ny (sym (subst (λ (z : Link). Concludes z o) (ap (λ (i : ℕ). link_at ls i) e ∙ T.pr) h)))
    | other a b d ↦ T.rest k a b d
  ]

  -- a premise of a link other than the cut is neither x nor y
  pub not_x : (k o : ℕ) → k ≢ c → Uses (link_at ls k) o → o ≢ x
  not_x k o h u e = h (only_x k o (sym e) u)

  pub not_y : (k o : ℕ) → k ≢ c → Uses (link_at ls k) o → o ≢ y
  not_y k o h u e = h (only_y k o (sym e) u)

  -- c is a cut
  pub not_c : (k : ℕ) (z : Link) → link_at ls k ≡ z → ((a b : ℕ) → z ≡ Cut a b → ⊥) → k ≢ c
  not_c k z e h q = meets_not (link_at ls c) x y T.cut z (sym (ap (λ (i : ℕ). link_at ls i) q) ∙ e) h

  -- formulas are kept, both ways
  pub reads_after : (o : ℕ) (F : Formula) → o ≢ x → o ≢ y → Reads ls o F → Reads ls' o F
  reads_after o (atom z) nx ny h = (h.0, h.1, stays h.0 o nx ny (concl o (Axiom o h.1 z) h.2 (inl refl)) ∙ h.2)
  reads_after o (co_atom z) nx ny h = (h.0, h.1, stays h.0 o nx ny (concl o (Axiom h.1 o z) h.2 (inr refl)) ∙ h.2)
  reads_after o (tensor A B) nx ny h =
      let k : ℕ = h.0 in
      let kc : k ≢ c = not_c k (Tensor h.1 h.2 o) h.3 (no_tensor h.1 h.2 o) in
      let ua : Uses (link_at ls k) h.1 = uses h.1 (Tensor h.1 h.2 o) h.3 (inl refl) in
      let ub : Uses (link_at ls k) h.2 = uses h.2 (Tensor h.1 h.2 o) h.3 (inr refl) in (
        k,
        h.1,
        h.2,
        stays k o nx ny (concl o (Tensor h.1 h.2 o) h.3 refl) ∙ h.3,
        reads_after h.1 A (not_x k h.1 kc ua) (not_y k h.1 kc ua) h.4,
        reads_after h.2 B (not_x k h.2 kc ub) (not_y k h.2 kc ub) h.5,
      )
  reads_after o (par A B) nx ny h =
      let k : ℕ = h.0 in
      let kc : k ≢ c = not_c k (Par h.1 h.2 o) h.3 (no_par h.1 h.2 o) in
      let ua : Uses (link_at ls k) h.1 = uses h.1 (Par h.1 h.2 o) h.3 (inl refl) in
      let ub : Uses (link_at ls k) h.2 = uses h.2 (Par h.1 h.2 o) h.3 (inr refl) in (
        k,
        h.1,
        h.2,
        stays k o nx ny (concl o (Par h.1 h.2 o) h.3 refl) ∙ h.3,
        reads_after h.1 A (not_x k h.1 kc ua) (not_y k h.1 kc ua) h.4,
        reads_after h.2 B (not_x k h.2 kc ub) (not_y k h.2 kc ub) h.5,
      )

  -- who uses o in the new structure
  pub data User (k o : ℕ) : Type 0 where
    old : k ≢ c → k ≢ t → k ≢ p → Uses (link_at ls k) o → User k o
    lefts : k ≡ t → (l ≡ o) ⊎ (m ≡ o) → User k o
    rights : k ≡ p → (r ≡ o) ⊎ (s ≡ o) → User k o

  pub user : (k o : ℕ) → Uses (link_at ls' k) o → User k o
  user k o u = elim (which c t p k) [
    | is_c e ↦ absurd (subst (λ (z : Link). Uses z o) (ap (λ (i : ℕ). link_at ls' i) e ∙ T.at_c) u)
    | is_t e ↦ lefts e (subst (λ (z : Link). Uses z o) (ap (λ (i : ℕ). link_at ls' i) e ∙ T.at_t) u)
    | is_p e ↦ rights e (subst (λ (z : Link). Uses z o) (ap (λ (i : ℕ). link_at ls' i) e ∙ T.at_p) u)
    | other a b d ↦ old a b d (subst (λ (z : Link). Uses z o) (T.rest k a b d) u)
  ]

  -- who used it before
  pub before : (k o : ℕ) → User k o → (j : ℕ) × (j ≢ c) × Uses (link_at ls j) o
  before k o (old a b d u) = (k, a, u)
  before k o (lefts e (inl q)) = (t, T.t≢c, to_t o (inl q))
  before k o (lefts e (inr q)) = (p, T.p≢c, to_p o (inl q))
  before k o (rights e (inl q)) = (t, T.t≢c, to_t o (inr q))
  before k o (rights e (inr q)) = (p, T.p≢c, to_p o (inr q))

  apart_l : (k o : ℕ) → k ≢ t → k ≢ p → Uses (link_at ls k) o → (l ≡ o) ⊎ (m ≡ o) → ⊥
  apart_l k o b d u (inl q) = b (n.used_once k t o u (to_t o (inl q)))
  apart_l k o b d u (inr q) = d (n.used_once k p o u (to_p o (inl q)))

  apart_r : (k o : ℕ) → k ≢ t → k ≢ p → Uses (link_at ls k) o → (r ≡ o) ⊎ (s ≡ o) → ⊥
  apart_r k o b d u (inl q) = b (n.used_once k t o u (to_t o (inr q)))
  apart_r k o b d u (inr q) = d (n.used_once k p o u (to_p o (inr q)))

  crossed : (o : ℕ) → Uses (Tensor l r x) o → Uses (Par m s y) o → ⊥
  crossed o u v = T.p≢t (n.used_once p t o (to_p o v) (to_t o u))

  l≢r : l ≢ r
  l≢r = subst EndsDiffer T.ten (n.ends_differ t)

  m≢s : m ≢ s
  m≢s = subst EndsDiffer T.pr (n.ends_differ p)

  apart_lr : (o : ℕ) → (l ≡ o) ⊎ (m ≡ o) → (r ≡ o) ⊎ (s ≡ o) → ⊥
  apart_lr o (inl a) (inl b) = l≢r (a ∙ sym b)
  apart_lr o (inl a) (inr b) = crossed o (inl a) (inr b)
  apart_lr o (inr a) (inl b) = crossed o (inr b) (inl a)
  apart_lr o (inr a) (inr b) = m≢s (a ∙ sym b)

  once' : (i j o : ℕ) → User i o → User j o → i ≡ j
  once' i j o (old a b d u) (old a₂ b₂ d₂ v) = n.used_once i j o u v
  once' i j o (old a b d u) (lefts e q) = absurd (apart_l i o b d u q)
  once' i j o (old a b d u) (rights e q) = absurd (apart_r i o b d u q)
  once' i j o (lefts f w) (old a b d u) = absurd (apart_l j o b d u w)
  once' i j o (lefts f w) (lefts e q) = f ∙ sym e
  once' i j o (lefts f w) (rights e q) = absurd (apart_lr o w q)
  once' i j o (rights f w) (old a b d u) = absurd (apart_r j o b d u w)
  once' i j o (rights f w) (lefts e q) = absurd (apart_lr o q w)
  once' i j o (rights f w) (rights e q) = f ∙ sym e

  two' : (k : ℕ) → EndsDiffer (link_at ls' k)
  two' k = elim (which c t p k) [
    | is_c e ↦ subst EndsDiffer (sym (ap (λ (i : ℕ). link_at ls' i) e ∙ T.at_c)) tt
    | is_t e ↦ subst EndsDiffer (sym (ap (λ (i : ℕ). link_at ls' i) e ∙ T.at_t)) (λ q. crossed m (inl q) (inl refl))
    | is_p e ↦ subst EndsDiffer (sym (ap (λ (i : ℕ). link_at ls' i) e ∙ T.at_p)) (λ q. crossed s (inr q) (inr refl))
    | other a b d ↦ subst EndsDiffer (sym (T.rest k a b d)) (n.ends_differ k)
  ]

  -- a premise of a link other than the cut still stands
  pub stands_after : (j o : ℕ) → j ≢ c → Uses (link_at ls j) o → Stands ls' o
  stands_after j o a u =
      let h = n.premises_stand j o u in
      (h.0, subst (λ (z : Link). Concludes z o) (sym (stays h.0 o (not_x j o a u) (not_y j o a u) h.1)) h.1)

  -- what stands after is neither x nor y
  pub not_x_after : (o : ℕ) → Stands ls' o → o ≢ x
  not_x_after o h e = (old_end h.0 o h.1).1 (n.concluded_once h.0 t o (end_before h.0 o h.1) (concl o (Tensor l r x) T.ten (sym e)))

  pub not_y_after : (o : ℕ) → Stands ls' o → o ≢ y
  not_y_after o h e = (old_end h.0 o h.1).2 (n.concluded_once h.0 p o (end_before h.0 o h.1) (concl o (Par m s y) T.pr (sym e)))

  -- the parts are dual in pairs, before
  pub parts_dual : (A : Formula) × (B : Formula) × Reads ls x (tensor A B) × Reads ls l A × Reads ls r B × Reads ls m (dual_of A) × Reads ls s (dual_of B)
  parts_dual =
      let h = meets_dual ls n c x y T.cut in
      let f = top_tensor ls n t l r x h.0 T.ten h.1 in
      let g = top_par ls n p m s y (dual_of h.0) T.pr h.2 in
      let e : par (dual_of f.0) (dual_of f.1) ≡ par g.0 g.1 = ap dual_of (sym f.2) ∙ g.2 in
      let ea : g.0 ≡ dual_of f.0 = cc in
      let eb : g.1 ≡ dual_of f.1 = cc in
      (f.0, f.1, subst (λ (F : Formula). Reads ls x F) f.2 h.1, f.3, f.4, subst (λ (F : Formula). Reads ls m F) ea g.3, subst (λ (F : Formula). Reads ls s F) eb g.4)

  pub reads_part : (j o : ℕ) (F : Formula) → j ≢ c → Uses (link_at ls j) o → Reads ls o F → Reads ls' o F
  reads_part j o F a u = reads_after o F (not_x j o a u) (not_y j o a u)

  pub lefts_dual : Dual ls' l m
  lefts_dual = let h = parts_dual in (h.0, reads_part t l h.0 T.t≢c (to_t l (inl refl)) h.3, reads_part p m (dual_of h.0) T.p≢c (to_p m (inl refl)) h.5)

  pub rights_dual : Dual ls' r s
  rights_dual = let h = parts_dual in (h.1, reads_part t r h.1 T.t≢c (to_t r (inr refl)) h.4, reads_part p s (dual_of h.1) T.p≢c (to_p s (inr refl)) h.6)

  move_dual : (a b a₂ b₂ : ℕ) → a₂ ≡ a → b₂ ≡ b → Dual ls' a₂ b₂ → Dual ls' a b
  move_dual a b a₂ b₂ e f h = (h.0, subst (λ (o : ℕ). Reads ls' o h.0) e h.1, subst (λ (o : ℕ). Reads ls' o (dual_of h.0)) f h.2)

  cuts' : (k a b : ℕ) → link_at ls' k ≡ Cut a b → Dual ls' a b
  cuts' k a b e = elim (which c t p k) [
    | is_c q ↦ let g = sym T.at_c ∙ sym (ap (λ (i : ℕ). link_at ls' i) q) ∙ e in let z : ◌≡◌ {A = ℕ} 0 1 = cc in absurd (omega arith)
    | is_t q ↦ let g : Cut l m ≡ Cut a b = sym T.at_t ∙ sym (ap (λ (i : ℕ). link_at ls' i) q) ∙ e in let ea : l ≡ a = cc in let eb : m ≡ b = cc in move_dual a b l m ea eb lefts_dual
    | is_p q ↦ let g : Cut r s ≡ Cut a b = sym T.at_p ∙ sym (ap (λ (i : ℕ). link_at ls' i) q) ∙ e in let ea : r ≡ a = cc in let eb : s ≡ b = cc in move_dual a b r s ea eb rights_dual
    | other u v w ↦
        let g : link_at ls k ≡ Cut a b = sym (T.rest k u v w) ∙ e in
        let h = n.cuts_dual k a b g in
        (h.0, reads_part k a h.0 u (uses a (Cut a b) g (inl refl)) h.1, reads_part k b (dual_of h.0) u (uses b (Cut a b) g (inr refl)) h.2)
  ]

  in_range' : (k : ℕ) → InRange k (link_at ls' k)
  in_range' k =
      let rt = subst (InRange t) T.ten (n.in_range t) in
      let rp = subst (InRange p) T.pr (n.in_range p) in
      elim (which c t p k) [
        | is_c e ↦ subst (λ (j : ℕ). InRange j (link_at ls' j)) (sym e) (subst (InRange c) (sym T.at_c) tt)
        | is_t e ↦ subst (λ (j : ℕ). InRange j (link_at ls' j)) (sym e) (subst (InRange t) (sym T.at_t) (rt.0, rt.1, rp.1))
        | is_p e ↦ subst (λ (j : ℕ). InRange j (link_at ls' j)) (sym e) (subst (InRange p) (sym T.at_p) (rp.0, rt.2, rp.2))
        | other a b d ↦ subst (InRange k) (sym (T.rest k a b d)) (n.in_range k)
      ]

  pub facts_after : Facts ls'
  facts_after = facts_of ls' record {
    concluded_once = λ i j o a b. n.concluded_once i j o (end_before i o a) (end_before j o b);
    used_once = λ i j o u v. once' i j o (user i o u) (user j o v);
    ends_differ = two';
    premises_stand = λ k o u. let h = before k o (user k o u) in stands_after h.0 o h.1 h.2;
    has_formula = λ o h. let f = n.has_formula o (h.0, end_before h.0 o h.1) in (f.0, reads_after o f.0 (not_x_after o h) (not_y_after o h) f.1);
    cuts_dual = cuts';
    in_range = in_range';
  }

  -- what a link other than the cut used is used still
  pub used_after : (k o : ℕ) → k ≢ c → Uses (link_at ls k) o → (j : ℕ) × Uses (link_at ls' j) o
  used_after k o a u = elim (which c t p k) [
    | is_c e ↦ absurd (a e)
    | is_t e ↦ ⊎_elim (λ q. (t, uses o (Cut l m) T.at_t (inl q))) (λ q. (p, uses o (Cut r s) T.at_p (inl q))) (subst (λ (z : Link). Uses z o) (ap (λ (i : ℕ). link_at ls i) e ∙ T.ten) u)
    | is_p e ↦ ⊎_elim (λ q. (t, uses o (Cut l m) T.at_t (inr q))) (λ q. (p, uses o (Cut r s) T.at_p (inr q))) (subst (λ (z : Link). Uses z o) (ap (λ (i : ℕ). link_at ls i) e ∙ T.pr) u)
    | other u₂ v w ↦ (k, subst (λ (z : Link). Uses z o) (sym (T.rest k u₂ v w)) u)
  ]
