-- Whole runs.
use Rattle.std.proofs.Common.{◌≡◌, ℕ, zero, suc, ◌-◌, List, length, sym, refl, ap, ◌∙◌, inl, inr, ⊎_elim, arith, length-set}
use Rattle.links.specs.declared.link.Link.{Link}
use Rattle.links.specs.declared.link.Link.TheVariants.{Axiom, Tensor, Par}
use Rattle.cuts.specs.Steps.CutStep.{tensor_par, wires}
use Rattle.cuts.specs.Steps.Steps.{none, more}
use Rattle.cuts.specs.Claims.{CutHasStep, StepsKeep, OneStep}
use Rattle.cuts.proofs.Parting as Pa
use Rattle.cuts.proofs.Wiring as Wi
use Rattle.cuts.proofs.FactsKept.{step_keeps_facts_lem}
use Rattle.cuts.proofs.Forms.{conclusions}
use Rattle.cuts.proofs.Chaining.{meets_pair}
use Rattle.cuts.proofs.Costing.{parted_length, wired_length}
use Rattle.cuts.proofs.CorrectKept.{step_keeps_correct_lem, correct_cut_forms_lem}
use Rattle.links.specs.Links.{link_at, Concludes}
use Rattle.links.specs.Facts.{Facts}
use Rattle.links.proofs.Reading.{concl, two_ends}
use Rattle.cuts.specs.Steps.{OfTensorAndPar, parted, OfWires, wired, composed, CutStep, label}

pub cut_has_step : (L : Type 0) → CutHasStep L
cut_has_step L op d ls board n H c a b e = elim (correct_cut_forms_lem ls n H c a b e) [
  | inl (t, p, x, y, l, r, m, s, h) ↦ (parted ls c t p l r m s, board, tensor_par t p x y l r m s h refl refl, (Pa.slots ls (parted ls c t p l r m s) c t p x y l r m s h refl).at_c)
  | inr (f, g, p, q, a, p₂, q₂, a₂, h) ↦ (wired ls c f g q a p₂, composed op d board f g, wires f g p q a p₂ q₂ a₂ h refl refl, (Wi.slots ls (wired ls c f g q a p₂) c f g p q a p₂ q₂ a₂ h refl).at_c)
]

step_lengths : (L : Type 0) (op : L → L → L) (d : L) (c : ℕ) (ls ls' : List Link) (board board' : List L) → CutStep op d c ls board ls' board' → (length ls' ≡ length ls) × (length board' ≡ length board)
step_lengths L op d c ls ls' board board' (tensor_par t p x y l r m s h e el) = (ap length e ∙ parted_length ls c t p l r m s, ap length el)
step_lengths L op d c ls ls' board board' (wires f g p q a p₂ q₂ a₂ h e el) = (ap length e ∙ wired_length ls c f g q a p₂, ap length el ∙ length-set board (f - 1) (op (label d board f) (label d board g)))

pub steps_keep_lem : (L : Type 0) → StepsKeep L
steps_keep_lem L op d zero ls ls' board board' none n H = (n, H, refl, refl, λ o. ((λ k. k, λ k. k), λ k F. (λ h. h, λ h. h)))
steps_keep_lem L op d (suc k) ls ls' board board' (more {c = c} {ls₁ = ls₁} {board₁ = board₁} s rest) n H =
    let n₁ = step_keeps_facts_lem L op d c ls ls₁ board board₁ s n in
    let H₁ = step_keeps_correct_lem L op d c ls ls₁ board board₁ s n H in
    let K = steps_keep_lem L op d k ls₁ ls' board₁ board' rest n₁ H₁ in
    let len = step_lengths L op d c ls ls₁ board board₁ s in
    let C = conclusions L op d c ls ls₁ board board₁ s n in (
      K.0,
      K.1,
      K.2 ∙ len.0,
      K.3 ∙ len.1,
      λ o. (
        ((λ h. (K.4 o).0.0 ((C o).0.0 h)), λ h. (C o).0.1 ((K.4 o).0.1 h)),
        λ h F. ((λ r. ((K.4 o).1 ((C o).0.0 h) F).0 (((C o).1 h F).0 r)), λ r. ((C o).1 h F).1 (((K.4 o).1 ((C o).0.0 h) F).1 r)),
      ),
    )

-- one occurrence has one link
told : (ls : List Link) → Facts ls → (i j o : ℕ) (k l : Link) → link_at ls i ≡ k → link_at ls j ≡ l → Concludes k o → Concludes l o → (i ≡ j) × (k ≡ l)
told ls n i j o k l e f c d = let q = n.concluded_once i j o (concl o k e c) (concl o l f d) in (q, sym e ∙ ap (λ (x : ℕ). link_at ls x) q ∙ f)

module _ (ls : List Link) (n : Facts ls) (c : ℕ) where
  parts_not_wires : (t p x y l r m s f g u v a u₂ v₂ a₂ : ℕ) → OfTensorAndPar ls c t p x y l r m s → OfWires ls c f g u v a u₂ v₂ a₂ → ⊥
  parts_not_wires t p x y l r m s f g u v a u₂ v₂ a₂ h k = ⊎_elim
      (λ z. let e = (told ls n t f u (Tensor l r x) (Axiom u v a) h.tensor k.first z.0 (inl refl)).1 in let z : ◌≡◌ {A = ℕ} 0 1 = cc in omega arith)
      (λ z. let e = (told ls n t g v₂ (Tensor l r x) (Axiom u₂ v₂ a₂) h.tensor k.second z.0 (inr refl)).1 in let z : ◌≡◌ {A = ℕ} 0 1 = cc in omega arith)
      (meets_pair (link_at ls c) x y u v₂ h.cut k.cut)

  parts_one : (t p x y l r m s t₂ p₂ x₂ y₂ l₂ r₂ m₂ s₂ : ℕ) → OfTensorAndPar ls c t p x y l r m s → OfTensorAndPar ls c t₂ p₂ x₂ y₂ l₂ r₂ m₂ s₂ → parted ls c t p l r m s ≡ parted ls c t₂ p₂ l₂ r₂ m₂ s₂
  parts_one t p x y l r m s t₂ p₂ x₂ y₂ l₂ r₂ m₂ s₂ h k = ⊎_elim
      (λ z.
      let a = told ls n t t₂ x₂ (Tensor l r x) (Tensor l₂ r₂ x₂) h.tensor k.tensor z.0 refl in
      let b = told ls n p p₂ y₂ (Par m s y) (Par m₂ s₂ y₂) h.par k.par z.1 refl in
      let a0 = a.0 in let a1 = a.1 in let b0 = b.0 in let b1 = b.1 in
      let el : l ≡ l₂ = cc in let er : r ≡ r₂ = cc in let em : m ≡ m₂ = cc in let es : s ≡ s₂ = cc in
      cc)
      (λ z. let e = (told ls n t p₂ y₂ (Tensor l r x) (Par m₂ s₂ y₂) h.tensor k.par z.0 refl).1 in let z : ◌≡◌ {A = ℕ} 0 1 = cc in absurd (omega arith))
      (meets_pair (link_at ls c) x y x₂ y₂ h.cut k.cut)

  wires_one : (f g p q a p₂ q₂ a₂ f' g' p' q' a' p₂' q₂' a₂' : ℕ) → OfWires ls c f g p q a p₂ q₂ a₂ → OfWires ls c f' g' p' q' a' p₂' q₂' a₂' → (f ≡ f') × (g ≡ g') × (q ≡ q') × (a ≡ a') × (p₂ ≡ p₂')
  wires_one f g p q a p₂ q₂ a₂ f' g' p' q' a' p₂' q₂' a₂' h k = elim (meets_pair (link_at ls c) p q₂ p' q₂' h.cut k.cut) [
    | inl z ↦
        let x = told ls n f f' p' (Axiom p q a) (Axiom p' q' a') h.first k.first (inl z.0) (inl refl) in
        let y = told ls n g g' q₂' (Axiom p₂ q₂ a₂) (Axiom p₂' q₂' a₂') h.second k.second (inr z.1) (inr refl) in
        let x1 = x.1 in let y1 = y.1 in
        let e1 : q ≡ q' = cc in let e2 : a ≡ a' = cc in let e3 : p₂ ≡ p₂' = cc in
        (x.0, y.0, e1, e2, e3)
    | inr z ↦
        let x = told ls n f g' q₂' (Axiom p q a) (Axiom p₂' q₂' a₂') h.first k.second (inl z.0) (inr refl) in
        let x1 = x.1 in
        let d : p ≡ p₂' = cc in
        absurd (two_ends ls n g' p₂' q₂' a₂' k.second (sym d ∙ z.0))
  ]

pub one_step : (L : Type 0) → OneStep L
one_step L op d c ls ls₁ ls₂ board board₁ board₂ n (tensor_par t p x y l r m s h e el) (tensor_par t₂ p₂ x₂ y₂ l₂ r₂ m₂ s₂ h₂ e₂ el₂) =
    (e ∙ parts_one ls n c t p x y l r m s t₂ p₂ x₂ y₂ l₂ r₂ m₂ s₂ h h₂ ∙ sym e₂, el ∙ sym el₂)
one_step L op d c ls ls₁ ls₂ board board₁ board₂ n (tensor_par t p x y l r m s h e el) (wires f g u v a u₂ v₂ a₂ h₂ e₂ el₂) = absurd (parts_not_wires ls n c t p x y l r m s f g u v a u₂ v₂ a₂ h h₂)
one_step L op d c ls ls₁ ls₂ board board₁ board₂ n (wires f g u v a u₂ v₂ a₂ h₂ e₂ el₂) (tensor_par t p x y l r m s h e el) = absurd (parts_not_wires ls n c t p x y l r m s f g u v a u₂ v₂ a₂ h h₂)
one_step L op d c ls ls₁ ls₂ board board₁ board₂ n (wires f g p q a p₂ q₂ a₂ h e el) (wires f' g' p' q' a' p₂' q₂' a₂' h' e' el') =
    let z = wires_one ls n c f g p q a p₂ q₂ a₂ f' g' p' q' a' p₂' q₂' a₂' h h' in
    let z0 = z.0 in let z1 = z.1 in let z2 = z.2 in let z3 = z.3 in let z4 = z.4 in
    let x : wired ls c f g q a p₂ ≡ wired ls c f' g' q' a' p₂' = cc in
    let y : composed op d board f g ≡ composed op d board f' g' = cc in
    (e ∙ x ∙ sym e', el ∙ y ∙ sym el')
