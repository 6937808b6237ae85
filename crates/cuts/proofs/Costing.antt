-- Costs.
use Rattle.std.proofs.Common.{◌≡◌, ℕ, zero, suc, ◌+◌, ◌*◌, ◌<◌, ◌≤◌, cond, eqb, ◌≢◌, List, length, set, sym, refl, ap, ◌∙◌, subst, inl, inr, arith, length-set}
use Rattle.std.proofs.lemmas.Bool.{cases_eq, eq-eqb, ne_eqb, cond-true, cond-false}
use Rattle.links.specs.declared.link.Link.{Link}
use Rattle.links.specs.declared.link.Link.TheVariants.{Empty, Axiom, Tensor, Par, Cut}
use Rattle.cuts.specs.Steps.CutStep.{tensor_par, wires}
use Rattle.cuts.specs.Steps.Steps.{none, more}
use Rattle.cuts.specs.Claims.{StepLowersCost, OneCost, NoCostNoCut, StepsLowerCost}
use Rattle.cuts.proofs.Parting as Pa
use Rattle.cuts.proofs.Wiring as Wi
use Rattle.cuts.proofs.Parting.{Parted}
use Rattle.cuts.proofs.Wiring.{Wired}
use Rattle.cuts.proofs.FactsKept.{step_keeps_facts_lem}
use Rattle.links.specs.Links.{link_at, total}
use Rattle.links.specs.Formulas.{Formula, atom, co_atom, tensor, par, dual_of, connectives, Reads}
use Rattle.links.specs.Facts.{Facts}
use Rattle.links.proofs.Reading.{uses, room, one_formula_lem}
use Rattle.cuts.specs.Steps.{Meets, parted, wired}
use Rattle.cuts.specs.Costs.{Weighs, Cost}

pub total_same : (w v : ℕ → ℕ) (n : ℕ) → ((k : ℕ) → k < n → w k ≡ v k) → total w n ≡ total v n
total_same w v zero h = refl
total_same w v (suc n) h = let a = total_same w v n (λ k l. h k (omega arith)) in let b = h n (omega arith) in omega arith

-- two weightings that differ at i alone
pub total_one : (w v : ℕ → ℕ) (i n : ℕ) → i < n → ((k : ℕ) → k ≢ i → w k ≡ v k) → total w n + v i ≡ total v n + w i
total_one w v i zero l h = absurd (omega arith)
total_one w v i (suc n) l h = elim (cases_eq i n) [
  | inl e ↦
      let a = total_same w v n (λ k j. h k (λ q. let z = q ∙ e in omega arith)) in
      let b = ap w e in let d = ap v e in omega arith
  | inr ne ↦ let a = total_one w v i n (omega (arith, ne)) h in let b = h n (λ q. ne (sym q)) in omega arith
]

abbrev upd : (ℕ → ℕ) → ℕ → ℕ → ℕ → ℕ
upd w i x k = cond (eqb k i) x (w k)

upd_same : (w : ℕ → ℕ) (i x : ℕ) → upd w i x i ≡ x
upd_same w i x = cond-true (eqb i i) x (w i) (eq-eqb i i refl)

upd_other : (w : ℕ → ℕ) (i x k : ℕ) → k ≢ i → upd w i x k ≡ w k
upd_other w i x k h = cond-false (eqb k i) x (w k) (ne_eqb k i h)

-- two weightings that differ at three places alone
pub total_three : (w v : ℕ → ℕ) (i j k n : ℕ) → i < n → j < n → k < n → j ≢ i → k ≢ i → k ≢ j → ((o : ℕ) → o ≢ i → o ≢ j → o ≢ k → w o ≡ v o) → total w n + (v i + v j + v k) ≡ total v n + (w i + w j + w k)
total_three w v i j k n li lj lk ji ki kj h =
    let w1 : ℕ → ℕ = upd w i (v i) in
    let w2 : ℕ → ℕ = upd w1 j (v j) in
    let a = total_one w w1 i n li (λ o q. sym (upd_other w i (v i) o q)) in
    let b = total_one w1 w2 j n lj (λ o q. sym (upd_other w1 j (v j) o q)) in
    let same : (o : ℕ) → o ≢ k → w2 o ≡ v o = λ o q. elim (cases_eq o j) [
      | inl e ↦ ap w2 e ∙ upd_same w1 j (v j) ∙ sym (ap v e)
      | inr nj ↦ upd_other w1 j (v j) o nj ∙ elim (cases_eq o i) [
        | inl e ↦ ap w1 e ∙ upd_same w i (v i) ∙ sym (ap v e)
        | inr ni ↦ upd_other w i (v i) o ni ∙ h o ni nj q
      ]
    ] in
    let d = total_one w2 v k n lk same in
    let e1 : w1 i ≡ v i = upd_same w i (v i) in
    let e2 : w2 j ≡ v j = upd_same w1 j (v j) in
    let e3 : w1 j ≡ w j = upd_other w i (v i) j ji in
    let e4 : w2 k ≡ w k = upd_other w1 j (v j) k kj ∙ upd_other w i (v i) k ki in
    omega arith

total_ge : (w : ℕ → ℕ) (k n : ℕ) → k < n → w k ≤ total w n
total_ge w k zero l = absurd (omega arith)
total_ge w k (suc n) l = elim (cases_eq k n) [
  | inl e ↦ let b = ap w e in omega arith
  | inr ne ↦ let a = total_ge w k n (omega (arith, ne)) in omega arith
]

total_none : (w : ℕ → ℕ) (n : ℕ) → ((k : ℕ) → w k ≡ 0) → total w n ≡ 0
total_none w zero h = refl
total_none w (suc n) h = let a = total_none w n h in let b = h n in omega arith

connectives_dual_of : (F : Formula) → connectives (dual_of F) ≡ connectives F
connectives_dual_of (atom x) = refl
connectives_dual_of (co_atom x) = refl
connectives_dual_of (tensor F G) = let a = connectives_dual_of F in let b = connectives_dual_of G in omega arith
connectives_dual_of (par F G) = let a = connectives_dual_of F in let b = connectives_dual_of G in omega arith

weigh_one : (ls : List Link) → Facts ls → (z : Link) (m n : ℕ) → Weighs ls z m → Weighs ls z n → m ≡ n
weigh_one ls h Empty m n a b = a ∙ sym b
weigh_one ls h (Axiom p q x) m n a b = a ∙ sym b
weigh_one ls h (Tensor l r t) m n a b = a ∙ sym b
weigh_one ls h (Par l r t) m n a b = a ∙ sym b
weigh_one ls h (Cut l r) m n a b =
    let e : b.0 ≡ a.0 = one_formula_lem ls h l a.0 b.0 a.1 b.1 in
    let f : connectives b.0 ≡ connectives a.0 = ap connectives e in
    let x = a.2 in let y = b.2 in omega arith

weigh : (ls : List Link) → Facts ls → (k : ℕ) (z : Link) → link_at ls k ≡ z → (n : ℕ) × Weighs ls z n
weigh ls h k Empty e = (0, refl)
weigh ls h k (Axiom p q x) e = (0, refl)
weigh ls h k (Tensor l r t) e = (0, refl)
weigh ls h k (Par l r t) e = (0, refl)
weigh ls h k (Cut l r) e = let d = h.cuts_dual k l r e in (2 * connectives d.0 + 1, (d.0, d.1, refl))

one_total : (ls : List Link) → Facts ls → (m n : ℕ) → Cost ls m → Cost ls n → m ≡ n
one_total ls h m n a b = a.sum ∙ total_same a.weight b.weight (length ls) (λ k _. weigh_one ls h (link_at ls k) (a.weight k) (b.weight k) (a.weighs k) (b.weighs k)) ∙ sym b.sum

pub one_cost : OneCost
one_cost ls h =
    let w : ℕ → ℕ = λ k. (weigh ls h k (link_at ls k) refl).0 in
    ((total w (length ls), record { weight = w; weighs = λ k. (weigh ls h k (link_at ls k) refl).1; sum = refl }), one_total ls h)

-- the weight of a slot whose link is known
weight_at : (ls : List Link) (k n : ℕ) (z : Link) → link_at ls k ≡ z → Weighs ls (link_at ls k) n → Weighs ls z n
weight_at ls k n z e h = subst (λ (y : Link). Weighs ls y n) e h

not_cut_weight : (ls : List Link) (z : Link) (n : ℕ) → Weighs ls z n → ((a b : ℕ) → z ≡ Cut a b → ⊥) → n ≡ 0
not_cut_weight ls Empty n h no_cut = h
not_cut_weight ls (Axiom p q x) n h no_cut = h
not_cut_weight ls (Tensor l r t) n h no_cut = h
not_cut_weight ls (Par l r t) n h no_cut = h
not_cut_weight ls (Cut l r) n h no_cut = absurd (no_cut l r refl)

pub no_cost : NoCostNoCut
no_cost ls n h = (
  (λ e k a b f.
      let w = weight_at ls k (h.weight k) (Cut a b) f (h.weighs k) in
      let g = total_ge h.weight k (length ls) (room ls k (λ q. let z : ◌≡◌ {A = ℕ} 0 1 = cc in omega arith)) in
      let s = h.sum in
      let v = w.2 in
      omega arith),
  (λ free. h.sum ∙ total_none h.weight (length ls) (λ k. not_cut_weight ls (link_at ls k) (h.weight k) (h.weighs k) (λ a b e. free k a b e))),
)

-- a weight is kept where the formulas of a cut's premises are
carry : (ls ls' : List Link) (z : Link) (n : ℕ) → ((a b : ℕ) (F : Formula) → z ≡ Cut a b → Reads ls a F → Reads ls' a F) → Weighs ls z n → Weighs ls' z n
carry ls ls' Empty n f h = h
carry ls ls' (Axiom p q x) n f h = h
carry ls ls' (Tensor l r t) n f h = h
carry ls ls' (Par l r t) n f h = h
carry ls ls' (Cut a b) n f h = (h.0, f a b h.0 refl h.1, h.2)

-- the weight of a cut by the formula of either premise
cut_weight : (ls : List Link) → Facts ls → (c x y n : ℕ) (F : Formula) → Meets (link_at ls c) x y → Reads ls x F → Weighs ls (link_at ls c) n → n ≡ 2 * connectives F + 1
cut_weight ls h c x y n F (inl e) r w =
    let v = weight_at ls c n (Cut x y) e w in
    let g : v.0 ≡ F = one_formula_lem ls h x F v.0 r v.1 in
    let k : connectives v.0 ≡ connectives F = ap connectives g in
    let u = v.2 in omega arith
cut_weight ls h c x y n F (inr e) r w =
    let v = weight_at ls c n (Cut y x) e w in
    let d = h.cuts_dual c y x e in
    let g : v.0 ≡ d.0 = one_formula_lem ls h y d.0 v.0 d.1 v.1 in
    let g₂ : dual_of d.0 ≡ F = one_formula_lem ls h x F (dual_of d.0) r d.2 in
    let k : connectives v.0 ≡ connectives F = ap connectives g ∙ sym (connectives_dual_of d.0) ∙ ap connectives g₂ in
    let u = v.2 in omega arith

module _ (ls ls' : List Link) (len : length ls' ≡ length ls) (n : Facts ls) (i j : ℕ) (A : Cost ls i) (B : Cost ls' j) where
  -- the sums of two structures that differ in three slots
  sums : (c t p : ℕ) → t ≢ c → p ≢ c → p ≢ t → c < length ls → t < length ls → p < length ls
      → ((k : ℕ) → k ≢ c → k ≢ t → k ≢ p → link_at ls' k ≡ link_at ls k)
      → ((k a b : ℕ) (F : Formula) → k ≢ c → link_at ls k ≡ Cut a b → Reads ls a F → Reads ls' a F)
      → Facts ls'
      → i + (B.weight c + B.weight t + B.weight p) ≡ j + (A.weight c + A.weight t + A.weight p)
  sums c t p tc pc pt lc lt lp rest kept n' =
      let s = total_three A.weight B.weight c t p (length ls) lc lt lp tc pc pt (λ k kc kt kp.
      let e : link_at ls k ≡ link_at ls' k = sym (rest k kc kt kp) in
      let w : Weighs ls' (link_at ls k) (A.weight k) = carry ls ls' (link_at ls k) (A.weight k) (λ a b F q. kept k a b F kc q) (A.weighs k) in
      weigh_one ls' n' (link_at ls' k) (A.weight k) (B.weight k) (subst (λ (z : Link). Weighs ls' z (A.weight k)) e w) (B.weighs k)) in
      let a = A.sum in
      let b : j ≡ total B.weight (length ls) = B.sum ∙ ap (total B.weight) len in
      omega arith

  pub parted_falls : (c t p x y l r m s : ℕ) → Parted ls ls' c t p x y l r m s → i ≡ j + 1
  parted_falls c t p x y l r m s T =
      let n' = Pa.facts_after ls ls' c t p x y l r m s T n in
      let lc : c < length ls = room ls c (λ q. Pa.meets_not (link_at ls c) x y T.cut Empty q (λ a b f. let z : ◌≡◌ {A = ℕ} 0 1 = cc in omega arith)) in
      let lt : t < length ls = room ls t (λ q. let a = T.ten in let z : ◌≡◌ {A = ℕ} 0 1 = cc in omega arith) in
      let lp : p < length ls = room ls p (λ q. let a = T.pr in let z : ◌≡◌ {A = ℕ} 0 1 = cc in omega arith) in
      let s1 = sums c t p T.t≢c T.p≢c T.p≢t lc lt lp T.rest
      (λ k a b F kc e. Pa.reads_after ls ls' c t p x y l r m s T n a F
      (Pa.not_x ls ls' c t p x y l r m s T n k a kc (uses a (Cut a b) e (inl refl)))
      (Pa.not_y ls ls' c t p x y l r m s T n k a kc (uses a (Cut a b) e (inl refl)))) n' in
      let h = Pa.parts_dual ls ls' c t p x y l r m s T n in
      let dl = Pa.reads_part ls ls' c t p x y l r m s T n t l h.0 T.t≢c (uses l (Tensor l r x) T.ten (inl refl)) h.3 in
      let dr = Pa.reads_part ls ls' c t p x y l r m s T n t r h.1 T.t≢c (uses r (Tensor l r x) T.ten (inr refl)) h.4 in
      let wc : A.weight c ≡ 2 * (connectives h.0 + connectives h.1 + 1) + 1 = cut_weight ls n c x y (A.weight c) (tensor h.0 h.1) T.cut h.2 (A.weighs c) in
      let wt : A.weight t ≡ 0 = weight_at ls t (A.weight t) (Tensor l r x) T.ten (A.weighs t) in
      let wp : A.weight p ≡ 0 = weight_at ls p (A.weight p) (Par m s y) T.pr (A.weighs p) in
      let vc : B.weight c ≡ 0 = weight_at ls' c (B.weight c) Empty T.at_c (B.weighs c) in
      let vt : B.weight t ≡ 2 * connectives h.0 + 1 = cut_weight ls' n' t l m (B.weight t) h.0 (inl T.at_t) dl (B.weighs t) in
      let vp : B.weight p ≡ 2 * connectives h.1 + 1 = cut_weight ls' n' p r s (B.weight p) h.1 (inl T.at_p) dr (B.weighs p) in
      omega arith

  pub wired_falls : (c f g p q a p₂ q₂ a₂ : ℕ) → Wired ls ls' c f g p q a p₂ q₂ a₂ → i ≡ j + 1
  wired_falls c f g p q a p₂ q₂ a₂ T =
      let n' = Wi.facts_after ls ls' c f g p q a p₂ q₂ a₂ T n in
      let lc : c < length ls = room ls c (λ q. Pa.meets_not (link_at ls c) p q₂ T.cut Empty q (λ a b f. let z : ◌≡◌ {A = ℕ} 0 1 = cc in omega arith)) in
      let lf : f < length ls = room ls f (λ q. let a = T.fst in let z : ◌≡◌ {A = ℕ} 0 1 = cc in omega arith) in
      let lg : g < length ls = room ls g (λ q. let a = T.snd in let z : ◌≡◌ {A = ℕ} 0 1 = cc in omega arith) in
      let s1 = sums c f g T.f≢c T.g≢c (λ z. T.f≢g (sym z)) lc lf lg T.rest
      (λ k x y F kc e. Wi.reads_after ls ls' c f g p q a p₂ q₂ a₂ T n x F
      (Wi.not_p ls ls' c f g p q a p₂ q₂ a₂ T n k x kc (uses x (Cut x y) e (inl refl)))
      (Wi.not_q₂ ls ls' c f g p q a p₂ q₂ a₂ T n k x kc (uses x (Cut x y) e (inl refl)))) n' in
      let wc : A.weight c ≡ 1 = cut_weight ls n c p q₂ (A.weight c) (atom a) T.cut (f, q, T.fst) (A.weighs c) in
      let wf : A.weight f ≡ 0 = weight_at ls f (A.weight f) (Axiom p q a) T.fst (A.weighs f) in
      let wg : A.weight g ≡ 0 = weight_at ls g (A.weight g) (Axiom p₂ q₂ a₂) T.snd (A.weighs g) in
      let vc : B.weight c ≡ 0 = weight_at ls' c (B.weight c) Empty T.at_c (B.weighs c) in
      let vf : B.weight f ≡ 0 = weight_at ls' f (B.weight f) (Axiom p₂ q a) T.at_f (B.weighs f) in
      let vg : B.weight g ≡ 0 = weight_at ls' g (B.weight g) Empty T.at_g (B.weighs g) in
      omega arith

pub parted_length : (ls : List Link) (c t p l r m s : ℕ) → length (parted ls c t p l r m s) ≡ length ls
parted_length ls c t p l r m s = length-set (set (set ls c Empty) t (Cut l m)) p (Cut r s) ∙ length-set (set ls c Empty) t (Cut l m) ∙ length-set ls c Empty

pub wired_length : (ls : List Link) (c f g q a p₂ : ℕ) → length (wired ls c f g q a p₂) ≡ length ls
wired_length ls c f g q a p₂ = length-set (set (set ls c Empty) g Empty) f (Axiom p₂ q a) ∙ length-set (set ls c Empty) g Empty ∙ length-set ls c Empty

pub step_lowers_cost : (L : Type 0) → StepLowersCost L
step_lowers_cost L op d c ls ls' board board' (tensor_par t p x y l r m s h e _) n i j A B =
    parted_falls ls ls' (ap length e ∙ parted_length ls c t p l r m s) n i j A B c t p x y l r m s (Pa.slots ls ls' c t p x y l r m s h e)
step_lowers_cost L op d c ls ls' board board' (wires f g p q a p₂ q₂ a₂ h e _) n i j A B =
    wired_falls ls ls' (ap length e ∙ wired_length ls c f g q a p₂) n i j A B c f g p q a p₂ q₂ a₂ (Wi.slots ls ls' c f g p q a p₂ q₂ a₂ h e)

pub steps_lower_cost : (L : Type 0) → StepsLowerCost L
steps_lower_cost L op d zero ls ls' board board' none n i j A B = let e = one_total ls n i j A B in omega arith
steps_lower_cost L op d (suc k) ls ls' board board' (more {c = c} {ls₁ = ls₁} {board₁ = board₁} s rest) n i j A B =
    let n₁ = step_keeps_facts_lem L op d c ls ls₁ board board₁ s n in
    let C = (one_cost ls₁ n₁).0 in
    let a = step_lowers_cost L op d c ls ls₁ board board₁ s n i C.0 A C.1 in
    let b = steps_lower_cost L op d k ls₁ ls' board₁ board' rest n₁ C.0 j C.1 B in
    omega arith
