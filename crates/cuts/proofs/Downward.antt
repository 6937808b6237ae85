-- Run-downs.
use Rattle.std.proofs.Common.{◌≡◌, ℕ, zero, suc, ◌<◌, min, ◌⊎◌, List, length, sym, refl, ap, ◌∙◌, inl, inr, arith}
use Rattle.std.proofs.lemmas.Bool.{cases_eq}
use Rattle.links.specs.declared.link.Link.{Link}
use Rattle.links.specs.declared.link.Link.TheVariants.{Empty, Axiom, Tensor, Par, Cut}
use Rattle.cuts.specs.Steps.Steps.{none, more}
use Rattle.cuts.specs.Claims.{RunDownCounts, RunDownStands}
use Rattle.cuts.specs.Costs.RunDown.{spent, clear, again}
use Rattle.cuts.proofs.FactsKept.{step_keeps_facts_lem}
use Rattle.cuts.proofs.Costing.{one_cost, no_cost, step_lowers_cost}
use Rattle.cuts.proofs.CorrectKept.{step_keeps_correct_lem}
use Rattle.cuts.proofs.Stepping.{cut_has_step}
use Rattle.links.specs.Links.{link_at}
use Rattle.links.specs.Facts.{Facts}
use Rattle.links.proofs.Reading.{room}
use Rattle.cuts.specs.Steps.{Steps}
use Rattle.cuts.specs.Costs.{Cost, LowestCut, RunDown}

counts : (L : Type 0) (op : L → L → L) (d : L) {b k : ℕ} {ls ls' : List Link} {board board' : List L} → RunDown op d b k ls board ls' board' → Facts ls → (n : ℕ) → Cost ls n → (k ≡ min b n) × Steps op d k ls board ls' board'
counts L op d spent n i A = (omega arith, none)
counts L op d (clear {budget = b} {ls = ls} free) n i A = let z = (no_cost ls i A).1 free in (omega arith, none)
counts L op d (again {budget = b} {made = k} {c = c} {ls = ls} {ls₁ = ls₁} {board = board} {board₁ = board₁} low s rest) n i A =
    let n₁ = step_keeps_facts_lem L op d c ls ls₁ board board₁ s n in
    let C = (one_cost ls₁ n₁).0 in
    let a = step_lowers_cost L op d c ls ls₁ board board₁ s n i C.0 A C.1 in
    let R = counts L op d rest n₁ C.0 C.1 in
    let r = R.0 in
    (omega arith, more s R.1)

pub run_down_counts_lem : (L : Type 0) → RunDownCounts L
run_down_counts_lem L op d b k ls ls' board board' r = counts L op d r

is_cut : (z : Link) → ((a : ℕ) × (b : ℕ) × (z ≡ Cut a b)) ⊎ ((a b : ℕ) → z ≡ Cut a b → ⊥)
is_cut Empty = inr (λ a b e. let z : ◌≡◌ {A = ℕ} 0 1 = cc in omega arith)
is_cut (Axiom p q x) = inr (λ a b e. let z : ◌≡◌ {A = ℕ} 0 1 = cc in omega arith)
is_cut (Tensor p q x) = inr (λ a b e. let z : ◌≡◌ {A = ℕ} 0 1 = cc in omega arith)
is_cut (Par p q x) = inr (λ a b e. let z : ◌≡◌ {A = ℕ} 0 1 = cc in omega arith)
is_cut (Cut a b) = inl (a, b, refl)

lowest : (ls : List Link) (n : ℕ) → ((c : ℕ) × LowestCut ls c) ⊎ ((k a b : ℕ) → k < n → link_at ls k ≡ Cut a b → ⊥)
lowest ls zero = inr (λ k a b l e. omega arith)
lowest ls (suc n) = elim (lowest ls n) [
  | inl h ↦ inl h
  | inr h ↦ elim (is_cut (link_at ls n)) [
    | inl z ↦ inl (n, record { left = z.0; right = z.1; cut = z.2; least = h })
    | inr z ↦ inr (λ k a b l e. elim (cases_eq k n) [ inl q ↦ z a b (ap (λ (i : ℕ). link_at ls i) (sym q) ∙ e) | inr ne ↦ h k a b (omega (arith, ne)) e ])
  ]
]

pub run_down_stands : (L : Type 0) → RunDownStands L
run_down_stands L op d zero ls board n H = (zero, ls, board, spent)
run_down_stands L op d (suc b) ls board n H = elim (lowest ls (length ls)) [
  | inl (c, low) ↦
      let S = cut_has_step L op d ls board n H c low.left low.right low.cut in
      let R = run_down_stands L op d b S.0 S.1 (step_keeps_facts_lem L op d c ls S.0 board S.1 S.2 n) (step_keeps_correct_lem L op d c ls S.0 board S.1 S.2 n H) in
      (suc R.0, R.1, R.2, again low S.2 R.3)
  | inr h ↦ (zero, ls, board, clear (λ k a b e. h k a b (room ls k (λ q. let z : ◌≡◌ {A = ℕ} 0 1 = cc in omega arith)) e))
]
