-- In a correct structure each wire whose negative end is above no cut starts a chain: such a wire stays through every
-- step, and once no cut is left it has come from a chain.
use Rattle.std.proofs.Common.{◌≡◌, ℕ, zero, suc, ◌+◌, ◌≤◌, min, List, [], length, replicate, sym, refl, ap, ◌∙◌, inl, inr, ⊎_elim, arith}
use lib.ListN.{length-replicate}
use Rattle.links.specs.declared.link.Link.{Link}
use Rattle.links.specs.declared.link.Link.TheVariants.{Axiom, Tensor, Par}
use Rattle.links.specs.Links.{link_at, CutFree}
use Rattle.links.specs.Facts.{Facts}
use Rattle.cuts.specs.Steps.{CutStep, Steps}
use Rattle.cuts.specs.Steps.CutStep.{tensor_par, wires}
use Rattle.cuts.specs.Steps.Steps.{none, more}
use Rattle.cuts.specs.Chains.{AboveCut}
use Rattle.cuts.specs.Claims.{FreeWiresStartChains}
use Rattle.cuts.proofs.Parting as Pa
use Rattle.cuts.proofs.Parting.{which, meets_not, no_axiom}
use Rattle.cuts.proofs.Parting.Which.{is_c, is_t, is_p, other}
use Rattle.cuts.proofs.Wiring as Wi
use Rattle.cuts.proofs.FactsKept.{step_keeps_facts_lem}
use Rattle.cuts.proofs.Costing.{one_cost, no_cost, steps_lower_cost}
use Rattle.cuts.proofs.Chaining.{above_before, w_above_before, labels_along_chains}
use Rattle.cuts.proofs.Stepping.{steps_keep_lem}
use Rattle.cuts.proofs.Downward.{run_down_counts_lem, run_down_stands}

-- the wire w has the negative end q, which is above no cut
record FreeWire (ls : List Link) (w q : ℕ) : Type 0 where
  p : ℕ
  a : ℕ
  wire : link_at ls w ≡ Axiom p q a
  free : AboveCut ls q → ⊥

stays : (L : Type 0) (op : L → L → L) (d : L) (c : ℕ) (ls ls' : List Link) (board board' : List L) → CutStep op d c ls board ls' board' → Facts ls → (w q : ℕ) → FreeWire ls w q → FreeWire ls' w q
stays L op d c ls ls' board board' (tensor_par t p x y l r m s h e _) n w q W =
    let T = Pa.slots ls ls' c t p x y l r m s h e in
    let free : AboveCut ls' q → ⊥ = λ A. W.free (above_before ls ls' c t p x y l r m s T n q A) in
    elim (which c t p w) [
      | is_c z ↦ absurd (meets_not (link_at ls c) x y T.cut (Axiom W.p q W.a) (ap (λ (i : ℕ). link_at ls i) (sym z) ∙ W.wire) (no_axiom W.p q W.a))
      | is_t z ↦ let b : Tensor l r x ≡ Axiom W.p q W.a = sym T.ten ∙ ap (λ (i : ℕ). link_at ls i) (sym z) ∙ W.wire in let z : ◌≡◌ {A = ℕ} 0 1 = cc in absurd (omega arith)
      | is_p z ↦ let b : Par m s y ≡ Axiom W.p q W.a = sym T.pr ∙ ap (λ (i : ℕ). link_at ls i) (sym z) ∙ W.wire in let z : ◌≡◌ {A = ℕ} 0 1 = cc in absurd (omega arith)
      | other u v k ↦ record { p = W.p; a = W.a; wire = T.rest w u v k ∙ W.wire; free = free }
    ]
stays L op d c ls ls' board board' (wires f g p q a p₂ q₂ a₂ h e _) n w r W =
    let T = Wi.slots ls ls' c f g p q a p₂ q₂ a₂ h e in
    let free : AboveCut ls' r → ⊥ = λ A. W.free (w_above_before ls ls' c f g p q a p₂ q₂ a₂ T n r A) in
    elim (which c f g w) [
      | is_c z ↦ absurd (meets_not (link_at ls c) p q₂ T.cut (Axiom W.p r W.a) (ap (λ (i : ℕ). link_at ls i) (sym z) ∙ W.wire) (no_axiom W.p r W.a))
      | is_t z ↦
          let b : Axiom p q a ≡ Axiom W.p r W.a = sym T.fst ∙ ap (λ (i : ℕ). link_at ls i) (sym z) ∙ W.wire in
          let k : q ≡ r = cc in
          record { p = p₂; a = a; wire = ap (λ (i : ℕ). link_at ls' i) z ∙ T.at_f ∙ ap (λ (i : ℕ). Axiom p₂ i a) k; free = free }
      | is_p z ↦
          let b : Axiom p₂ q₂ a₂ ≡ Axiom W.p r W.a = sym T.snd ∙ ap (λ (i : ℕ). link_at ls i) (sym z) ∙ W.wire in
          let k : q₂ ≡ r = cc in
          absurd (W.free (record { c = c; a = q₂; b = p; path = []; cut = ⊎_elim (λ i. inr i) (λ i. inl i) T.cut; lies = k }))
      | other u v k ↦ record { p = W.p; a = W.a; wire = T.rest w u v k ∙ W.wire; free = free }
    ]

all_stay : (L : Type 0) (op : L → L → L) (d : L) (k : ℕ) (ls ls' : List Link) (board board' : List L) → Steps op d k ls board ls' board' → Facts ls → (w q : ℕ) → FreeWire ls w q → FreeWire ls' w q
all_stay L op d zero ls ls' board board' none n w q W = W
all_stay L op d (suc k) ls ls' board board' (more {c = c} {ls₁ = ls₁} {board₁ = board₁} s rest) n w q W =
    all_stay L op d k ls₁ ls' board₁ board' rest (step_keeps_facts_lem L op d c ls ls₁ board board₁ s n) w q (stays L op d c ls ls₁ board board₁ s n w q W)

pub free_wires_start_chains_lem : FreeWiresStartChains
free_wires_start_chains_lem ls n H w p q a e free =
    -- labels of one value do: only the steps matter
    let op : Unit {0} → Unit {0} → Unit {0} = λ x y. tt in
    let board : List (Unit {0}) = replicate (length ls) tt in
    let C = (one_cost ls n).0 in
    let R = run_down_stands (Unit {0}) op tt C.0 ls board n H in
    let K = run_down_counts_lem (Unit {0}) op tt C.0 R.0 ls R.1 board R.2 R.3 n C.0 C.1 in
    let kept = steps_keep_lem (Unit {0}) op tt R.0 ls R.1 board R.2 K.1 n H in
    let D = (one_cost R.1 kept.0).0 in
    let fall = steps_lower_cost (Unit {0}) op tt R.0 ls R.1 board R.2 K.1 n C.0 D.0 C.1 D.1 in
    let made : R.0 ≡ C.0 = K.0 ∙ at_most C.0 in
    let clear : CutFree R.1 = (no_cost R.1 D.0 D.1).0 (omega arith) in
    let W = all_stay (Unit {0}) op tt R.0 ls R.1 board R.2 K.1 n w q (record { p = p; a = a; wire = e; free = free }) in
    let long : length ls ≤ length board + 1 = omega (arith, length-replicate (length ls) (tt {0})) in
    let from = labels_along_chains (Unit {0}) op tt (λ x y z. refl) R.0 ls R.1 board R.2 K.1 n long clear w W.p q W.a W.wire in
    (from.wires, from.chain)
  where
    at_most : (m : ℕ) → min m m ≡ m
    at_most m = omega arith
