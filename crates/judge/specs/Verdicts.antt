-- What a judgement answers: a refusal, or a verdict with its ground.
-- A structure is accepted where it is correct, and so where some sequent proof has it as its net. Otherwise the row
-- shows a switching, and the verdict names a link on a cycle there, or two links that no walk joins.
use Rattle.std.specs.Prelude.{◌≡◌, ℕ, ◌<◌, ◌≤◌, ◌↔◌, List, length, Ok, Err, Result, slice_index}
use Rattle.refusals.specs.declared.refusal.Refusal.{Refusal}
use Rattle.refusals.specs.declared.refusal.Refusal.TheVariants.{TooShort, NothingStands}
use Rattle.refusals.specs.Reasons.{Reasons, on, no_other}
use Rattle.links.specs.declared.link.Link.{Link}
use Rattle.links.specs.declared.link.Link.TheVariants.{Empty}
use Rattle.links.specs.Links.{link_at}
use Rattle.switchings.specs.Switchings.{OnCycle, NoWalk, Correct}
use Rattle.switchings.specs.Rows.{sides_of, Shows}
use Rattle.sequents.specs.Sequents.{Provable}
use Rattle.judge.specs.declared.verdict.Verdict.{Verdict}
use Rattle.judge.specs.declared.verdict.Verdict.TheVariants.{Accepted, Cyclic, Apart}

abbrev pub number_of : Verdict → ℕ
number_of Accepted = 1
number_of (Cyclic n) = 2
number_of (Apart m n) = 3

-- a row of sides below 256 entries is too short; and there must be a link
abbrev pub judge_reasons : List Link → List ℕ → Reasons
judge_reasons ls row =
    on TooShort (length row < 256) (
    on NothingStands ((n : ℕ) → link_at ls n ≡ Empty) no_other)

-- the row begins with the sides, and is as before past them
pub record Copied (sides before after : List ℕ) : Type 0 where
  pub shown : (i : ℕ) → i < 256 → slice_index after i ≡ slice_index sides i
  pub beyond : (i : ℕ) → 256 ≤ i → slice_index after i ≡ slice_index before i

-- the verdict is right, and the row shows why it is not an acceptance
abbrev pub Judged : List Link → List ℕ → List ℕ → Verdict → Type 0
Judged ls before after Accepted = Correct ls × Provable ls × (after ≡ before)
Judged ls before after (Cyclic n) = Shows ls before after × OnCycle ls (sides_of after) n
Judged ls before after (Apart m n) = Shows ls before after × NoWalk ls (sides_of after) m n

-- a judgement that is not refused accepts exactly what is correct, and exactly what is provable
abbrev pub Exact : List Link → Result Verdict Refusal → Type 0
Exact ls (Ok verdict) = ((verdict ≡ Accepted) ↔ Correct ls) × ((verdict ≡ Accepted) ↔ Provable ls)
Exact ls (Err why) = Unit {0}
