-- Run-downs: the loop's turns make the steps, and in a correct structure they are a run-down of the theory.
use Rattle.std.proofs.Common.{◌≡◌, ℕ, suc, ◌+◌, ◌-◌, ◌<◌, ◌≤◌, List, length, subst, ⊎_elim, arith}
use mathlib.Core.Logic.{∥∥₁_elim}
use mathlib.Core.HLevel.{⊥_prop}
use Rattle.refusals.specs.declared.refusal.Refusal.{Refusal}
use Rattle.refusals.specs.declared.refusal.Refusal.TheVariants.{LinkRange, TooShort, NoSuchLink, NotACut}
use Rattle.refusals.specs.Reasons.{First, ◌before◌}
use Rattle.refusals.proofs.Refusing.{none_on, none_other, none_before}
use Rattle.links.specs.declared.link.Link.{Link}
use Rattle.links.specs.Facts.{InRange, Facts}
use Rattle.switchings.specs.Switchings.{left, Correct}
use Rattle.table.specs.Refusing.{link_number, no_such_cut}
use Rattle.cuts.specs.Steps.{CutStep}
use Rattle.cuts.specs.Costs.{LowestCut, RunDown}
use Rattle.cuts.specs.Costs.RunDown.{spent as run-spent, clear as run-clear, again as run-again}
use Rattle.cuts.proofs.FactsKept.{step_keeps_facts_lem}
use Rattle.cuts.proofs.CorrectKept.{step_keeps_correct_lem, self_cycle}
use Rattle.reducer.specs.Reductions.{short_board}
use Rattle.reducer.specs.Descents.{Descends}
use Rattle.reducer.specs.Descents.Descends.{spent, clear, stuck, again}

-- the lowest cut is not refused
pub no_refusal : {L : Type 0} (ls : List Link) (board : List L) (c : ℕ) (why : Refusal) → ∥ Facts ls ∥₁ → 256 ≤ length board → LowestCut ls c → First (◌before◌ (link_number c) (◌before◌ (short_board board) (no_such_cut ls c))) why → ⊥
no_refusal ls board c why facts long low first =
    ∥∥₁_elim facts ⊥_prop (λ f.
    let w = (subst (InRange c) low.cut (f.in_range c)).0 in
    let one = w.0 in
    let most = w.1 in
    let e = low.cut in
    none_before (none_on LinkRange (λ out. ⊎_elim (λ h. omega arith) (λ h. omega arith) out) none_other) (
    none_before (none_on TooShort (λ short. omega arith) none_other) (
    none_on NoSuchLink (λ q. cc) (none_on NotACut (λ nay. nay low.left low.right e) none_other)
    )) why first.fits)

-- one turn more
pub turn : {L : Type 0} (op : L → L → L) (d : L) (budget made c k : ℕ) {ls ls₁ ls' : List Link} {board board₁ board' : List L} → made < budget → LowestCut ls c → CutStep op d c ls board ls₁ board₁ → Descends op d (budget - (made + 1)) k ls₁ board₁ ls' board' → Descends op d (budget - made) (suc k) ls board ls' board'
turn op d budget made c k {ls} {ls₁} {ls'} {board} {board₁} {board'} h low step rest =
    let e : suc (budget - (made + 1)) ≡ budget - made = omega arith in
    subst (λ (b : ℕ). Descends op d b (suc k) ls board ls' board') e (again low step rest)

-- in a correct structure a descent is a run-down
pub correctly : {L : Type 0} (op : L → L → L) (d : L) {budget made : ℕ} {ls ls' : List Link} {board board' : List L} → Descends op d budget made ls board ls' board' → Facts ls → Correct ls → RunDown op d budget made ls board ls' board'
correctly op d spent f H = run-spent
correctly op d (clear free) f H = run-clear free
correctly op d (stuck {c = c} {ls = ls} low self) f H = let z = self_cycle ls f (λ n. left) c self in absurd (H.acyclic (λ n. left) z.0 z.1)
correctly {L} op d (again {c = c} {ls = ls} {ls₁ = ls₁} {board = board} {board₁ = board₁} low step rest) f H =
    run-again low step (correctly op d rest (step_keeps_facts_lem L op d c ls ls₁ board board₁ step f) (step_keeps_correct_lem L op d c ls ls₁ board board₁ step f H))
