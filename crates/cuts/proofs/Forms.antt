-- The forms of a cut, and the conclusions over a step.
use Rattle.std.proofs.Common.{◌≡◌, ℕ, ◌≢◌, ◌⊎◌, ◌↔◌, List, sym, ap, ◌∙◌, subst, inl, inr, ⊎_elim}
use Rattle.std.proofs.lemmas.Bool.{cases_eq}
use Rattle.links.specs.declared.link.Link.{Link}
use Rattle.links.specs.declared.link.Link.TheVariants.{Axiom, Cut}
use Rattle.cuts.specs.Steps.CutStep.{tensor_par, wires}
use Rattle.cuts.specs.Claims.{CutForms, CutsTensorAndPar, CutsTwoWires, CutsOneWire, StepKeepsConclusions}
use Rattle.cuts.proofs.Parting as Pa
use Rattle.cuts.proofs.Wiring as Wi
use Rattle.cuts.proofs.Parting.{Parted}
use Rattle.cuts.proofs.Wiring.{Wired}
use Rattle.links.specs.Links.{link_at, Concludes, Uses, Stands, Conclusion}
use Rattle.links.specs.Formulas.{Formula, atom, co_atom, tensor, par, dual_of, Reads}
use Rattle.links.specs.Facts.{Facts}
use Rattle.links.proofs.Reading.{one_formula_lem}
use Rattle.cuts.specs.Steps.{Meets}
use Rattle.cuts.proofs.Meeting.{meets_left, meets_right}

two_wires : (ls : List Link) (c f g p q a p₂ q₂ a₂ : ℕ) → Meets (link_at ls c) p q₂ → link_at ls f ≡ Axiom p q a → link_at ls g ≡ Axiom p₂ q₂ a₂ → CutsTwoWires ls c ⊎ CutsOneWire ls c
two_wires ls c f g p q a p₂ q₂ a₂ h e e₂ = elim (cases_eq f g) [
  | inl d ↦
      let k : Axiom p q a ≡ Axiom p₂ q₂ a₂ = sym e ∙ ap (λ (i : ℕ). link_at ls i) d ∙ e₂ in
      let z : q₂ ≡ q = cc in
      inr (f, p, q, a, e, subst (λ (o : ℕ). Meets (link_at ls c) p o) z h)
  | inr d ↦ inl (f, g, p, q, a, p₂, q₂, a₂, record { cut = h; first = e; second = e₂; differ = d })
]

form : (ls : List Link) (c a b : ℕ) (F : Formula) → link_at ls c ≡ Cut a b → Reads ls a F → Reads ls b (dual_of F) → CutsTensorAndPar ls c ⊎ (CutsTwoWires ls c ⊎ CutsOneWire ls c)
form ls c a b (atom z) e f g = inr (two_wires ls c f.0 g.0 a f.1 z g.1 b z (inl e) f.2 g.2)
form ls c a b (co_atom z) e f g = inr (two_wires ls c g.0 f.0 b g.1 z f.1 a z (inr e) g.2 f.2)
form ls c a b (tensor A B) e f g = inl (f.0, g.0, a, b, f.1, f.2, g.1, g.2, record { cut = inl e; tensor = f.3; par = g.3 })
form ls c a b (par A B) e f g = inl (g.0, f.0, b, a, g.1, g.2, f.1, f.2, record { cut = inr e; tensor = g.3; par = f.3 })

pub cut_forms_lem : CutForms
cut_forms_lem ls n c a b e = let d = n.cuts_dual c a b e in form ls c a b d.0 e d.1 d.2

-- a formula read in the one structure is that of the other, where both have the occurrence's formula
back : (ls ls' : List Link) → Facts ls → Facts ls' → (o : ℕ) → Stands ls o → ((F : Formula) → Reads ls o F → Reads ls' o F) → (F : Formula) → Reads ls o F ↔ Reads ls' o F
back ls ls' n n' o st f F = (f F, λ h. let g = n.has_formula o st in subst (λ (G : Formula). Reads ls o G) (sym (one_formula_lem ls' n' o g.0 F (f g.0 g.1) h)) g.1)

pub conclusions : (L : Type 0) → StepKeepsConclusions L
conclusions L op d c ls ls' board board' (tensor_par t p x y l r m s h e _) n o =
    let T = Pa.slots ls ls' c t p x y l r m s h e in
    let n' = Pa.facts_after ls ls' c t p x y l r m s T n in
    let nx : Conclusion ls o → o ≢ x = λ k q. k.1 c (subst (λ (z : ℕ). Uses (link_at ls c) z) (sym q) (meets_left ls n c x y T.cut)) in
    let ny : Conclusion ls o → o ≢ y = λ k q. k.1 c (subst (λ (z : ℕ). Uses (link_at ls c) z) (sym q) (meets_right ls n c x y T.cut)) in
    let there : Conclusion ls o → Conclusion ls' o = λ k. (
      (k.0.0, subst (λ (z : Link). Concludes z o) (sym (Pa.stays ls ls' c t p x y l r m s T n k.0.0 o (nx k) (ny k) k.0.1)) k.0.1),
      λ i u. let b = Pa.before ls ls' c t p x y l r m s T n i o (Pa.user ls ls' c t p x y l r m s T n i o u) in k.1 b.0 b.2,
    ) in
    let used : (k : Conclusion ls' o) (i : ℕ) → Uses (link_at ls i) o → ⊥ = λ k i u. elim (cases_eq i c) [
      | inl q ↦ elim T.cut [
        | inl f ↦ ⊎_elim (λ z. Pa.not_x_after ls ls' c t p x y l r m s T n o k.0 (sym z)) (λ z. Pa.not_y_after ls ls' c t p x y l r m s T n o k.0 (sym z)) (subst (λ (z : Link). Uses z o) (ap (λ (j : ℕ). link_at ls j) q ∙ f) u)
        | inr f ↦ ⊎_elim (λ z. Pa.not_y_after ls ls' c t p x y l r m s T n o k.0 (sym z)) (λ z. Pa.not_x_after ls ls' c t p x y l r m s T n o k.0 (sym z)) (subst (λ (z : Link). Uses z o) (ap (λ (j : ℕ). link_at ls j) q ∙ f) u)
      ]
      | inr ne ↦ let w = Pa.used_after ls ls' c t p x y l r m s T n i o ne u in k.1 w.0 w.1
    ] in (
      (there, λ k. ((k.0.0, Pa.end_before ls ls' c t p x y l r m s T n k.0.0 o k.0.1), used k)),
      λ k. back ls ls' n n' o k.0 (λ F. Pa.reads_after ls ls' c t p x y l r m s T n o F (nx k) (ny k)),
    )
conclusions L op d c ls ls' board board' (wires f g p q a p₂ q₂ a₂ h e _) n o =
    let T = Wi.slots ls ls' c f g p q a p₂ q₂ a₂ h e in
    let n' = Wi.facts_after ls ls' c f g p q a p₂ q₂ a₂ T n in
    let np : Conclusion ls o → o ≢ p = λ k q. k.1 c (subst (λ (z : ℕ). Uses (link_at ls c) z) (sym q) (meets_left ls n c p q₂ T.cut)) in
    let nq : Conclusion ls o → o ≢ q₂ = λ k q. k.1 c (subst (λ (z : ℕ). Uses (link_at ls c) z) (sym q) (meets_right ls n c p q₂ T.cut)) in
    let there : Conclusion ls o → Conclusion ls' o = λ k. (Wi.stands_after ls ls' c f g p q a p₂ q₂ a₂ T n o (np k) (nq k) k.0, λ i u. k.1 i (Wi.old_use ls ls' c f g p q a p₂ q₂ a₂ T n i o u).3) in
    let was : (k : Stands ls' o) → Stands ls o × (o ≢ p) × (o ≢ q₂) = λ k. Wi.end_before ls ls' c f g p q a p₂ q₂ a₂ T n k.0 o (Wi.end ls ls' c f g p q a p₂ q₂ a₂ T n k.0 o k.1) in
    let used : (k : Conclusion ls' o) (i : ℕ) → Uses (link_at ls i) o → ⊥ = λ k i u. elim (Wi.used_after ls ls' c f g p q a p₂ q₂ a₂ T n i o u) [
      | inl w ↦ k.1 i w
      | inr (inl z) ↦ (was k.0).1 (sym z)
      | inr (inr z) ↦ (was k.0).2 (sym z)
    ] in (
      (there, λ k. ((was k.0).0, used k)),
      λ k. back ls ls' n n' o k.0 (λ F. Wi.reads_after ls ls' c f g p q a p₂ q₂ a₂ T n o F (np k) (nq k)),
    )
