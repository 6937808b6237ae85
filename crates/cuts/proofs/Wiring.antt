-- A cut of two wires, and what the structure is after it, slot by slot.
use Rattle.std.proofs.Common.{◌≡◌, ℕ, ◌<◌, ◌≢◌, ◌⊎◌, List, length, set, sym, refl, ap, ◌∙◌, subst, inl, inr, ⊎_elim, arith, length-set}
use Rattle.std.proofs.lemmas.List.{get_or-set_same, get_or-set_other}
use Rattle.links.specs.declared.link.Link.{Link}
use Rattle.links.specs.declared.link.Link.TheVariants.{Empty, Axiom, Tensor, Par, Cut}
use Rattle.cuts.proofs.Parting.{meets_not, no_tensor, no_par, no_axiom, which}
use Rattle.cuts.proofs.Parting.Which.{is_c, is_t, is_p, other}
use Rattle.links.specs.Links.{link_at, Concludes, Uses, Stands}
use Rattle.links.specs.Formulas.{Formula, atom, co_atom, tensor, par, dual_of, Reads, Dual}
use Rattle.links.specs.Facts.{EndsDiffer, InRange, Facts}
use Rattle.links.proofs.Descent.{facts_of}
use Rattle.links.proofs.Reading.{concl, uses, room, top_pos, top_neg, two_ends}
use Rattle.cuts.specs.Steps.{Meets, OfWires, wired}
use Rattle.cuts.proofs.Meeting.{meets_left, meets_right, meets_dual}

pub record Wired (ls ls' : List Link) (c f g p q a p₂ q₂ a₂ : ℕ) : Type 0 where
  pub cut : Meets (link_at ls c) p q₂
  pub fst : link_at ls f ≡ Axiom p q a
  pub snd : link_at ls g ≡ Axiom p₂ q₂ a₂
  pub f≢g : f ≢ g
  pub f≢c : f ≢ c
  pub g≢c : g ≢ c
  pub at_c : link_at ls' c ≡ Empty
  pub at_g : link_at ls' g ≡ Empty
  pub at_f : link_at ls' f ≡ Axiom p₂ q a
  pub rest : (k : ℕ) → k ≢ c → k ≢ f → k ≢ g → link_at ls' k ≡ link_at ls k

pub slots : (ls ls' : List Link) (c f g p q a p₂ q₂ a₂ : ℕ) → OfWires ls c f g p q a p₂ q₂ a₂ → ls' ≡ wired ls c f g q a p₂ → Wired ls ls' c f g p q a p₂ q₂ a₂
slots ls ls' c f g p q a p₂ q₂ a₂ h e =
    let f≢c : f ≢ c = λ z. meets_not (link_at ls c) p q₂ h.cut (Axiom p q a) (sym (ap (λ (k : ℕ). link_at ls k) z) ∙ h.first) (no_axiom p q a) in
    let g≢c : g ≢ c = λ z. meets_not (link_at ls c) p q₂ h.cut (Axiom p₂ q₂ a₂) (sym (ap (λ (k : ℕ). link_at ls k) z) ∙ h.second) (no_axiom p₂ q₂ a₂) in
    let rc : c < length ls = room ls c (λ q. meets_not (link_at ls c) p q₂ h.cut Empty q (λ a b f. let z : ◌≡◌ {A = ℕ} 0 1 = cc in omega arith)) in
    let rf : f < length ls = room ls f (λ q. let x = h.first in let z : ◌≡◌ {A = ℕ} 0 1 = cc in omega arith) in
    let rg : g < length ls = room ls g (λ q. let x = h.second in let z : ◌≡◌ {A = ℕ} 0 1 = cc in omega arith) in
    let ls1 : List Link = set ls c Empty in
    let ls2 : List Link = set ls1 g Empty in
    let rg1 : g < length ls1 = omega (arith, length-set ls c Empty) in
    let rf2 : f < length ls2 = omega (arith, length-set ls c Empty, length-set ls1 g Empty) in
    record {
      cut = h.cut;
      fst = h.first;
      snd = h.second;
      f≢g = h.differ;
      f≢c = f≢c;
      g≢c = g≢c;
      at_c = ap (λ (z : List Link). link_at z c) e ∙ get_or-set_other ls2 f c (Axiom p₂ q a) Empty (λ z. f≢c (sym z)) ∙ get_or-set_other ls1 g c Empty Empty (λ z. g≢c (sym z)) ∙ get_or-set_same ls c Empty Empty rc;
      at_g = ap (λ (z : List Link). link_at z g) e ∙ get_or-set_other ls2 f g (Axiom p₂ q a) Empty (λ z. h.differ (sym z)) ∙ get_or-set_same ls1 g Empty Empty rg1;
      at_f = ap (λ (z : List Link). link_at z f) e ∙ get_or-set_same ls2 f (Axiom p₂ q a) Empty rf2;
      rest = λ k kc kf kg. ap (λ (z : List Link). link_at z k) e ∙ get_or-set_other ls2 f k (Axiom p₂ q a) Empty kf ∙ get_or-set_other ls1 g k Empty Empty kg ∙ get_or-set_other ls c k Empty Empty kc;
    }

module _ (ls ls' : List Link) (c f g p q a p₂ q₂ a₂ : ℕ) (T : Wired ls ls' c f g p q a p₂ q₂ a₂) (n : Facts ls) where
  -- both wires are on one atom
  pub same_atom : a ≡ a₂
  same_atom =
      let h = meets_dual ls n c p q₂ T.cut in
      let e = top_pos ls n f p q a h.0 T.fst h.1 in
      let e₂ = top_neg ls n g p₂ q₂ a₂ (dual_of h.0) T.snd h.2 in
      let e₃ : co_atom a ≡ co_atom a₂ = ap dual_of (sym e) ∙ e₂ in
      cc

  ends_f : (o : ℕ) → (p ≡ o) ⊎ (q ≡ o) → Concludes (link_at ls f) o
  ends_f o h = concl o (Axiom p q a) T.fst h

  ends_g : (o : ℕ) → (p₂ ≡ o) ⊎ (q₂ ≡ o) → Concludes (link_at ls g) o
  ends_g o h = concl o (Axiom p₂ q₂ a₂) T.snd h

  -- a standing occurrence of the new structure
  pub data End (k o : ℕ) : Type 0 where
    old : k ≢ c → k ≢ f → k ≢ g → Concludes (link_at ls k) o → End k o
    plain : k ≡ f → p₂ ≡ o → End k o
    barred : k ≡ f → q ≡ o → End k o

  pub end : (k o : ℕ) → Concludes (link_at ls' k) o → End k o
  end k o h = elim (which c f g k) [
    | is_c e ↦ absurd (subst (λ (z : Link). Concludes z o) (ap (λ (i : ℕ). link_at ls' i) e ∙ T.at_c) h)
    | is_t e ↦ ⊎_elim (plain e) (barred e) (subst (λ (z : Link). Concludes z o) (ap (λ (i : ℕ). link_at ls' i) e ∙ T.at_f) h)
    | is_p e ↦ absurd (subst (λ (z : Link). Concludes z o) (ap (λ (i : ℕ). link_at ls' i) e ∙ T.at_g) h)
    | other u v w ↦ old u v w (subst (λ (z : Link). Concludes z o) (T.rest k u v w) h)
  ]

  single' : (i j o : ℕ) → End i o → End j o → i ≡ j
  single' i j o (old u v w h) (old u₂ v₂ w₂ h₂) = n.concluded_once i j o h h₂
  single' i j o (old u v w h) (plain e d) = absurd (w (n.concluded_once i g o h (ends_g o (inl d))))
  single' i j o (old u v w h) (barred e d) = absurd (v (n.concluded_once i f o h (ends_f o (inr d))))
  single' i j o (plain e d) (old u v w h) = absurd (w (n.concluded_once j g o h (ends_g o (inl d))))
  single' i j o (plain e d) (plain e₂ d₂) = e ∙ sym e₂
  single' i j o (plain e d) (barred e₂ d₂) = e ∙ sym e₂
  single' i j o (barred e d) (old u v w h) = absurd (v (n.concluded_once j f o h (ends_f o (inr d))))
  single' i j o (barred e d) (plain e₂ d₂) = e ∙ sym e₂
  single' i j o (barred e d) (barred e₂ d₂) = e ∙ sym e₂

  p≢q : p ≢ q
  p≢q = two_ends ls n f p q a T.fst

  p₂≢q₂ : p₂ ≢ q₂
  p₂≢q₂ = two_ends ls n g p₂ q₂ a₂ T.snd

  -- an end of the one wire is none of the other
  across : (o : ℕ) → (p ≡ o) ⊎ (q ≡ o) → (p₂ ≡ o) ⊎ (q₂ ≡ o) → ⊥
  across o h k = T.f≢g (n.concluded_once f g o (ends_f o h) (ends_g o k))

  -- it stood before, and is neither of the cut ends
  pub end_before : (k o : ℕ) → End k o → Stands ls o × (o ≢ p) × (o ≢ q₂)
  end_before k o (old u v w h) = ((k, h), λ e. v (n.concluded_once k f o h (ends_f o (inl (sym e)))), λ e. w (n.concluded_once k g o h (ends_g o (inr (sym e)))))
  end_before k o (plain e d) = ((g, ends_g o (inl d)), λ z. across o (inl (sym z)) (inl d), λ z. p₂≢q₂ (d ∙ z))
  end_before k o (barred e d) = ((f, ends_f o (inr d)), λ z. p≢q (sym (d ∙ z)), λ z. across o (inr d) (inr (sym z)))

  -- a link of the new structure that has premises is an old one
  pub old_use : (k o : ℕ) → Uses (link_at ls' k) o → (k ≢ c) × (k ≢ f) × (k ≢ g) × Uses (link_at ls k) o
  old_use k o u = elim (which c f g k) [
    | is_c e ↦ absurd (subst (λ (z : Link). Uses z o) (ap (λ (i : ℕ). link_at ls' i) e ∙ T.at_c) u)
    | is_t e ↦ absurd (subst (λ (z : Link). Uses z o) (ap (λ (i : ℕ). link_at ls' i) e ∙ T.at_f) u)
    | is_p e ↦ absurd (subst (λ (z : Link). Uses z o) (ap (λ (i : ℕ). link_at ls' i) e ∙ T.at_g) u)
    | other a b d ↦ (a, b, d, subst (λ (z : Link). Uses z o) (T.rest k a b d) u)
  ]

  pub not_p : (k o : ℕ) → k ≢ c → Uses (link_at ls k) o → o ≢ p
  not_p k o h u e = h (n.used_once k c o u (subst (λ (z : ℕ). Uses (link_at ls c) z) (sym e) (meets_left ls n c p q₂ T.cut)))

  pub not_q₂ : (k o : ℕ) → k ≢ c → Uses (link_at ls k) o → o ≢ q₂
  not_q₂ k o h u e = h (n.used_once k c o u (subst (λ (z : ℕ). Uses (link_at ls c) z) (sym e) (meets_right ls n c p q₂ T.cut)))

  pub no_end_c : (o : ℕ) → Concludes (link_at ls c) o → ⊥
  no_end_c o h = elim T.cut [
    | inl e ↦ subst (λ (z : Link). Concludes z o) e h
    | inr e ↦ subst (λ (z : Link). Concludes z o) e h
  ]

  -- what stood and is neither of the cut ends stands
  pub stands_after : (o : ℕ) → o ≢ p → o ≢ q₂ → Stands ls o → Stands ls' o
  stands_after o np nq h = elim (which c f g h.0) [
    | is_c e ↦ absurd (no_end_c o (subst (λ (i : ℕ). Concludes (link_at ls i) o) e h.1))
    | is_t e ↦ (f, concl o (Axiom p₂ q a) T.at_f (⊎_elim (λ z. absurd (np (sym z))) (λ z. inr z) (subst (λ (z : Link). Concludes z o) (ap (λ (i : ℕ). link_at ls i) e ∙ T.fst) h.1)))
    | is_p e ↦ (f, concl o (Axiom p₂ q a) T.at_f (⊎_elim (λ z. inl z) (λ z. absurd (nq (sym z))) (subst (λ (z : Link). Concludes z o) (ap (λ (i : ℕ). link_at ls i) e ∙ T.snd) h.1)))
    | other u v w ↦ (h.0, subst (λ (z : Link). Concludes z o) (sym (T.rest h.0 u v w)) h.1)
  ]

  -- tensors and pars stay
  pub stays : (k : ℕ) (z : Link) → link_at ls k ≡ z → ((a b : ℕ) → z ≡ Cut a b → ⊥) → ((a b d : ℕ) → z ≡ Axiom a b d → ⊥) → (k ≢ c) × (link_at ls' k ≡ z)
  stays k z e nc na = elim (which c f g k) [
    | is_c d ↦ absurd (meets_not (link_at ls c) p q₂ T.cut z (sym (ap (λ (i : ℕ). link_at ls i) d) ∙ e) nc)
    | is_t d ↦ absurd (na p q a (sym e ∙ ap (λ (i : ℕ). link_at ls i) d ∙ T.fst))
    | is_p d ↦ absurd (na p₂ q₂ a₂ (sym e ∙ ap (λ (i : ℕ). link_at ls i) d ∙ T.snd))
    | other u v w ↦ (u, T.rest k u v w ∙ e)
  ]

  pub tensor_wire : (l r o a b d : ℕ) → Tensor l r o ≡ Axiom a b d → ⊥
  tensor_wire l r o a b d e = let z : ◌≡◌ {A = ℕ} 0 1 = cc in omega arith

  pub par_wire : (l r o a b d : ℕ) → Par l r o ≡ Axiom a b d → ⊥
  par_wire l r o a b d e = let z : ◌≡◌ {A = ℕ} 0 1 = cc in omega arith

  pub reads_after : (o : ℕ) (F : Formula) → o ≢ p → o ≢ q₂ → Reads ls o F → Reads ls' o F
  reads_after o (atom z) np nq h = elim (which c f g h.0) [
    | is_c e ↦ absurd (meets_not (link_at ls c) p q₂ T.cut (Axiom o h.1 z) (sym (ap (λ (i : ℕ). link_at ls i) e) ∙ h.2) (no_axiom o h.1 z))
    | is_t e ↦ let k : Axiom o h.1 z ≡ Axiom p q a = sym h.2 ∙ ap (λ (i : ℕ). link_at ls i) e ∙ T.fst in let d : o ≡ p = cc in absurd (np d)
    | is_p e ↦
        let k : Axiom o h.1 z ≡ Axiom p₂ q₂ a₂ = sym h.2 ∙ ap (λ (i : ℕ). link_at ls i) e ∙ T.snd in
        let s = same_atom in
        let d : Axiom p₂ q a ≡ Axiom o q z = cc in
        (f, q, T.at_f ∙ d)
    | other u v w ↦ (h.0, h.1, T.rest h.0 u v w ∙ h.2)
  ]
  reads_after o (co_atom z) np nq h = elim (which c f g h.0) [
    | is_c e ↦ absurd (meets_not (link_at ls c) p q₂ T.cut (Axiom h.1 o z) (sym (ap (λ (i : ℕ). link_at ls i) e) ∙ h.2) (no_axiom h.1 o z))
    | is_t e ↦
        let k : Axiom h.1 o z ≡ Axiom p q a = sym h.2 ∙ ap (λ (i : ℕ). link_at ls i) e ∙ T.fst in
        let d : Axiom p₂ q a ≡ Axiom p₂ o z = cc in
        (f, p₂, T.at_f ∙ d)
    | is_p e ↦ let k : Axiom h.1 o z ≡ Axiom p₂ q₂ a₂ = sym h.2 ∙ ap (λ (i : ℕ). link_at ls i) e ∙ T.snd in let d : o ≡ q₂ = cc in absurd (nq d)
    | other u v w ↦ (h.0, h.1, T.rest h.0 u v w ∙ h.2)
  ]
  reads_after o (tensor A B) np nq h =
      let k : ℕ = h.0 in
      let s = stays k (Tensor h.1 h.2 o) h.3 (no_tensor h.1 h.2 o) (tensor_wire h.1 h.2 o) in
      let ua : Uses (link_at ls k) h.1 = uses h.1 (Tensor h.1 h.2 o) h.3 (inl refl) in
      let ub : Uses (link_at ls k) h.2 = uses h.2 (Tensor h.1 h.2 o) h.3 (inr refl) in (
        k,
        h.1,
        h.2,
        s.1,
        reads_after h.1 A (not_p k h.1 s.0 ua) (not_q₂ k h.1 s.0 ua) h.4,
        reads_after h.2 B (not_p k h.2 s.0 ub) (not_q₂ k h.2 s.0 ub) h.5,
      )
  reads_after o (par A B) np nq h =
      let k : ℕ = h.0 in
      let s = stays k (Par h.1 h.2 o) h.3 (no_par h.1 h.2 o) (par_wire h.1 h.2 o) in
      let ua : Uses (link_at ls k) h.1 = uses h.1 (Par h.1 h.2 o) h.3 (inl refl) in
      let ub : Uses (link_at ls k) h.2 = uses h.2 (Par h.1 h.2 o) h.3 (inr refl) in (
        k,
        h.1,
        h.2,
        s.1,
        reads_after h.1 A (not_p k h.1 s.0 ua) (not_q₂ k h.1 s.0 ua) h.4,
        reads_after h.2 B (not_p k h.2 s.0 ub) (not_q₂ k h.2 s.0 ub) h.5,
      )

  two' : (k : ℕ) → EndsDiffer (link_at ls' k)
  two' k = elim (which c f g k) [
    | is_c e ↦ subst EndsDiffer (sym (ap (λ (i : ℕ). link_at ls' i) e ∙ T.at_c)) tt
    | is_t e ↦ subst EndsDiffer (sym (ap (λ (i : ℕ). link_at ls' i) e ∙ T.at_f)) (λ z. across p₂ (inr (sym z)) (inl refl))
    | is_p e ↦ subst EndsDiffer (sym (ap (λ (i : ℕ). link_at ls' i) e ∙ T.at_g)) tt
    | other a b d ↦ subst EndsDiffer (sym (T.rest k a b d)) (n.ends_differ k)
  ]

  -- the cuts of the new structure are old ones
  pub old_cut : (k x y : ℕ) → link_at ls' k ≡ Cut x y → (k ≢ c) × (link_at ls k ≡ Cut x y)
  old_cut k x y e = let h = old_use k x (uses x (Cut x y) e (inl refl)) in (h.0, sym (T.rest k h.0 h.1 h.2) ∙ e)

  cuts' : (k x y : ℕ) → link_at ls' k ≡ Cut x y → Dual ls' x y
  cuts' k x y e =
      let d = old_cut k x y e in
      let h = n.cuts_dual k x y d.1 in
      let ux = uses x (Cut x y) d.1 (inl refl) in
      let uy = uses y (Cut x y) d.1 (inr refl) in
      (h.0, reads_after x h.0 (not_p k x d.0 ux) (not_q₂ k x d.0 ux) h.1, reads_after y (dual_of h.0) (not_p k y d.0 uy) (not_q₂ k y d.0 uy) h.2)

  in_range' : (k : ℕ) → InRange k (link_at ls' k)
  in_range' k =
      let rf = subst (InRange f) T.fst (n.in_range f) in
      let rg = subst (InRange g) T.snd (n.in_range g) in
      elim (which c f g k) [
        | is_c e ↦ subst (λ (j : ℕ). InRange j (link_at ls' j)) (sym e) (subst (InRange c) (sym T.at_c) tt)
        | is_t e ↦ subst (λ (j : ℕ). InRange j (link_at ls' j)) (sym e) (subst (InRange f) (sym T.at_f) (rf.0, rg.1, rf.2, rf.3))
        | is_p e ↦ subst (λ (j : ℕ). InRange j (link_at ls' j)) (sym e) (subst (InRange g) (sym T.at_g) tt)
        | other x v w ↦ subst (InRange k) (sym (T.rest k x v w)) (n.in_range k)
      ]

  pub facts_after : Facts ls'
  facts_after = facts_of ls' record {
    concluded_once = λ i j o h k. single' i j o (end i o h) (end j o k);
    used_once = λ i j o u v. n.used_once i j o (old_use i o u).3 (old_use j o v).3;
    ends_differ = two';
    premises_stand = λ k o u. let h = old_use k o u in stands_after o (not_p k o h.0 h.3) (not_q₂ k o h.0 h.3) (n.premises_stand k o h.3);
    has_formula = λ o h. let e = end_before h.0 o (end h.0 o h.1) in let F = n.has_formula o e.0 in (F.0, reads_after o F.0 e.1 e.2 F.1);
    cuts_dual = cuts';
    in_range = in_range';
  }

  -- what a link used it uses still, but for the cut
  pub used_after : (k o : ℕ) → Uses (link_at ls k) o → Uses (link_at ls' k) o ⊎ ((p ≡ o) ⊎ (q₂ ≡ o))
  used_after k o u = elim (which c f g k) [
    | is_c e ↦ inr (elim T.cut [
      | inl d ↦ subst (λ (z : Link). Uses z o) (ap (λ (i : ℕ). link_at ls i) e ∙ d) u
      | inr d ↦ ⊎_elim (λ z. inr z) (λ z. inl z) (subst (λ (z : Link). Uses z o) (ap (λ (i : ℕ). link_at ls i) e ∙ d) u)
    ])
    | is_t e ↦ absurd (subst (λ (z : Link). Uses z o) (ap (λ (i : ℕ). link_at ls i) e ∙ T.fst) u)
    | is_p e ↦ absurd (subst (λ (z : Link). Uses z o) (ap (λ (i : ℕ). link_at ls i) e ∙ T.snd) u)
    | other x v w ↦ inl (subst (λ (z : Link). Uses z o) (sym (T.rest k x v w)) u)
  ]
