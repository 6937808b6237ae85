-- What a run-down does on any structure. In a correct one no wire is cut against itself, so that it is a run-down as the
-- theory has it: steps at the lowest-numbered cut until budget or cuts run out.
use Rattle.std.specs.Prelude.{◌≡◌, ℕ, zero, suc, List, Some, None, Option, Result}
use Rattle.refusals.specs.declared.refusal.Refusal.{Refusal}
use Rattle.refusals.specs.Reasons.{Says}
use Rattle.links.specs.declared.link.Link.{Link}
use Rattle.links.specs.Links.{CutFree, cut_count}
use Rattle.links.specs.Facts.{Facts}
use Rattle.switchings.specs.Switchings.{Correct}
use Rattle.cuts.specs.Steps.{CutStep}
use Rattle.cuts.specs.Costs.{LowestCut, RunDown}
use Rattle.cuts.specs.Claims.{CutsOneWire}
use Rattle.reducer.specs.declared.run_down.Ran.{Ran}
use Rattle.reducer.specs.Reductions.{short_board}

-- the lowest-numbered cut, if there is a cut
abbrev pub LowestIs : List Link → Option ℕ → Type 0
LowestIs ls None = CutFree ls
LowestIs ls (Some c) = LowestCut ls c

-- steps at the lowest-numbered cut, until the budget is spent, no cut is left, or the lowest cut has no step
pub data Descends {L : Type 0} (op : L → L → L) (d : L) : ℕ → ℕ → List Link → List L → List Link → List L → Type 0 where
  spent : {ls : List Link} {board : List L} → Descends op d zero zero ls board ls board
  clear : {budget : ℕ} {ls : List Link} {board : List L} → CutFree ls → Descends op d budget zero ls board ls board
  stuck : {budget c : ℕ} {ls : List Link} {board : List L} → LowestCut ls c → CutsOneWire ls c → Descends op d budget zero ls board ls board
  again : {budget made c : ℕ} {ls ls₁ ls₂ : List Link} {board board₁ board₂ : List L} → LowestCut ls c → CutStep op d c ls board ls₁ board₁ → Descends op d budget made ls₁ board₁ ls₂ board₂ → Descends op d (suc budget) (suc made) ls board ls₂ board₂

-- what a run-down made and left
pub record Went {L : Type 0} (op : L → L → L) (budget : ℕ) (ls : List Link) (board : List L) (ls' : List Link) (board' : List L) (ran : Ran) : Type 0 where
  pub steps : (d : L) → Descends op d budget ran.made ls board ls' board'
  pub correctly : Facts ls → Correct ls → (d : L) → RunDown op d budget ran.made ls board ls' board'
  pub left : ran.left ≡ cut_count ls'

abbrev pub RunsDown : {L : Type 0} → (L → L → L) → ℕ → List Link → List L → List Link → List L → Result Ran Refusal → Type 0
RunsDown op budget ls board ls' board' answer = Says (short_board board) (λ ran. Went op budget ls board ls' board' ran) ((ls' ≡ ls) × (board' ≡ board)) answer
