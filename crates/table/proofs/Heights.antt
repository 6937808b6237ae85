-- No formula nests deeper than there are slots: each height up to its own is that of a formula above it, and formulas
-- of different heights are concluded by different links.
use Rattle.std.proofs.Common.{◌≡◌, ℕ, zero, suc, ◌+◌, ◌<◌, ◌≤◌, max, cond, eqb, ◌⊎◌, List, length, sym, refl, ap, ◌∙◌, subst, inl, inr, ⊎_elim, arith}
use Rattle.std.proofs.lemmas.Bool.{cases_eq, eq-eqb, ne_eqb, cond-true, cond-false}
use Rattle.links.specs.declared.link.Link.{Link}
use Rattle.links.specs.declared.link.Link.TheVariants.{Empty, Axiom, Tensor, Par, Cut}
use Rattle.links.specs.Links.{link_at, Concludes}
use Rattle.links.specs.Formulas.{Formula, atom, co_atom, tensor, par, Reads}
use Rattle.links.specs.Facts.{Facts}
use Rattle.links.proofs.Reading.{concl, room, one_formula_lem, top_pos, top_neg}
use Rattle.table.specs.Duality.{height}

-- n numbers that each have a hole of their own below m are at most m
pigeonhole : (m n : ℕ) (R : ℕ → ℕ → Type 0) → ((i : ℕ) → i < n → (k : ℕ) × (k < m) × R i k) → ((i j k : ℕ) → R i k → R j k → i ≡ j) → n ≤ m
pigeonhole zero zero R hole own = omega arith
pigeonhole zero (suc n) R hole own = let p = hole 0 (omega arith) in let h : p.0 < 0 = p.1 in absurd (omega arith)
pigeonhole (suc m) zero R hole own = omega arith
pigeonhole (suc m) (suc n) R hole own =
    let last = hole n (omega arith) in
    let q : ℕ = last.0 in
    let hq : q < suc m = last.1 in
    -- the last hole is left out: what lay in hole m moves there
    let R' : ℕ → ℕ → Type 0 = λ i k. R i (cond (eqb k q) m k) in
    let hole' : (i : ℕ) → i < n → (k : ℕ) × (k < m) × R' i k =
    λ i h.
    let p = hole i (omega arith) in
    let k : ℕ = p.0 in
    let hk : k < suc m = p.1 in
    let apart : k ≡ q → ⊥ = λ e. let same : i ≡ n = own i n q (subst (R i) e p.2) last.2 in omega arith in
    ⊎_elim (λ e. (q, omega (arith, λ (x : q ≡ m). apart (e ∙ sym x)), subst (R i) (e ∙ sym (cond-true (eqb q q) m q (eq-eqb q q refl))) p.2)) (
    λ ne. (k, omega arith, subst (R i) (sym (cond-false (eqb k q) m k (ne_eqb k q apart))) p.2)
    ) (cases_eq k m)
    in
    let fewer : n ≤ m = pigeonhole m n R' hole' (λ i j k. own i j (cond (eqb k q) m k)) in
    omega arith

-- link k concludes an occurrence whose formula has the height i
record Level (ls : List Link) (i k : ℕ) : Type 0 where
  o : ℕ
  F : Formula
  reads : Reads ls o F
  high : height F ≡ i
  concludes : Concludes (link_at ls k) o

made_by : (ls : List Link) (o : ℕ) (F : Formula) → Reads ls o F → (k : ℕ) × Concludes (link_at ls k) o
made_by ls o (atom x) rd = (rd.0, concl o (Axiom o rd.1 x) rd.2 (inl refl))
made_by ls o (co_atom x) rd = (rd.0, concl o (Axiom rd.1 o x) rd.2 (inr refl))
made_by ls o (tensor A B) rd = (rd.0, concl o (Tensor rd.1 rd.2 o) rd.3 refl)
made_by ls o (par A B) rd = (rd.0, concl o (Par rd.1 rd.2 o) rd.3 refl)

here : (ls : List Link) (o : ℕ) (F : Formula) → Reads ls o F → (i : ℕ) → i ≡ height F → (k : ℕ) × Level ls i k
here ls o F rd i e = let m = made_by ls o F rd in (m.0, record { o = o; F = F; reads = rd; high = sym e; concludes = m.1 })

one_side : (a b i : ℕ) → i ≤ max a b → (i ≤ a) ⊎ (i ≤ b)
one_side a b i h = grind arith

level : (ls : List Link) (o : ℕ) (F : Formula) → Reads ls o F → (i : ℕ) → i ≤ height F → (k : ℕ) × Level ls i k
level ls o (atom x) rd i h = here ls o (atom x) rd i (omega arith)
level ls o (co_atom x) rd i h = here ls o (co_atom x) rd i (omega arith)
level ls o (tensor A B) rd i h =
    ⊎_elim (λ e. here ls o (tensor A B) rd i e) (
    λ ne. ⊎_elim (λ l. level ls rd.1 A rd.4 i l) (λ l. level ls rd.2 B rd.5 i l) (one_side (height A) (height B) i (omega arith))
    ) (cases_eq i (max (height A) (height B) + 1))
level ls o (par A B) rd i h =
    ⊎_elim (λ e. here ls o (par A B) rd i e) (
    λ ne. ⊎_elim (λ l. level ls rd.1 A rd.4 i l) (λ l. level ls rd.2 B rd.5 i l) (one_side (height A) (height B) i (omega arith))
    ) (cases_eq i (max (height A) (height B) + 1))

module _ (ls : List Link) (f : Facts ls) where
  flat : (k p q a o : ℕ) (F : Formula) → link_at ls k ≡ Axiom p q a → (p ≡ o) ⊎ (q ≡ o) → Reads ls o F → height F ≡ 0
  flat k p q a o F e (inl h) rd = ap height (top_pos ls f k p q a F e (subst (λ (x : ℕ). Reads ls x F) (sym h) rd))
  flat k p q a o F e (inr h) rd = ap height (top_neg ls f k p q a F e (subst (λ (x : ℕ). Reads ls x F) (sym h) rd))

  at_one : (c : ℕ) (x y : ℕ) (F G : Formula) → c ≡ x → c ≡ y → Reads ls x F → Reads ls y G → height F ≡ height G
  at_one c x y F G ex ey rf rg = ap height (sym (one_formula_lem ls f x F G rf (subst (λ (o : ℕ). Reads ls o G) (sym ey ∙ ex) rg)))

  by_link : (k i j : ℕ) (l : Link) → link_at ls k ≡ l → (x : Level ls i k) (y : Level ls j k) → Concludes l x.o → Concludes l y.o → i ≡ j
  by_link k i j Empty e x y cx cy = absurd cx
  by_link k i j (Cut a b) e x y cx cy = absurd cx
  by_link k i j (Axiom p q a) e x y cx cy = sym x.high ∙ flat k p q a x.o x.F e cx x.reads ∙ sym (flat k p q a y.o y.F e cy y.reads) ∙ y.high
  by_link k i j (Tensor l r c) e x y cx cy = sym x.high ∙ at_one c x.o y.o x.F y.F cx cy x.reads y.reads ∙ y.high
  by_link k i j (Par l r c) e x y cx cy = sym x.high ∙ at_one c x.o y.o x.F y.F cx cy x.reads y.reads ∙ y.high

  stands : (k o : ℕ) → Concludes (link_at ls k) o → link_at ls k ≡ Empty → ⊥
  stands k o c e = subst (λ (l : Link). Concludes l o) e c

  pub no_higher_than_slots : (o : ℕ) (F : Formula) → Reads ls o F → height F < length ls
  no_higher_than_slots o F rd =
      let h : height F + 1 ≤ length ls =
      pigeonhole (length ls) (height F + 1) (Level ls) (
      λ i l. let x = level ls o F rd i (omega arith) in (x.0, room ls x.0 (stands x.0 x.1.o x.1.concludes), x.1)
      ) (λ i j k x y. by_link k i j (link_at ls k) refl x y x.concludes y.concludes)
      in
      omega arith
