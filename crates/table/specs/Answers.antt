-- What the table's calls answer.
use Rattle.std.specs.Prelude.{◌≡◌, ℕ, ◌<◌, ◌≤◌, ◌↔◌, List, length, Some, None, Option, Result, slice_index, slice_set}
use Rattle.refusals.specs.declared.refusal.Refusal.{Refusal}
use Rattle.refusals.specs.declared.refusal.Refusal.TheVariants.{TooShort}
use Rattle.refusals.specs.Reasons.{Reasons, on, no_other, Says}
use Rattle.links.specs.declared.link.Link.{Link}
use Rattle.links.specs.declared.link.Link.TheVariants.{Empty}
use Rattle.links.specs.Links.{link_at, Concludes, Uses, Stands, Premise, Conclusion}

-- no reason fits and the link is placed at n, or the first is answered and the links are as before
abbrev pub Places : Reasons → ℕ → Link → List Link → List Link → Result Unit Refusal → Type 0
Places reasons n new before after answer = Says reasons (λ _. after ≡ slice_set before n new) (after ≡ before) answer

-- so too a link is withdrawn
abbrev pub Withdraws : Reasons → ℕ → List Link → List Link → Result Unit Refusal → Type 0
Withdraws reasons n before after answer = Places reasons n Empty before after answer

-- the link that concludes o, if o stands
abbrev pub Concluder : List Link → ℕ → Option ℕ → Type 0
Concluder ls o None = Stands ls o → ⊥
Concluder ls o (Some n) = Concludes (link_at ls n) o

-- the link that uses o, if o is a premise
abbrev pub User : List Link → ℕ → Option ℕ → Type 0
User ls o None = Premise ls o → ⊥
User ls o (Some n) = Uses (link_at ls n) o

-- the conclusions, rising, from the start of the row, and their number
pub record Listed (ls : List Link) (before after : List ℕ) (count : ℕ) : Type 0 where
  pub long : length after ≡ length before
  pub fits : count ≤ length before
  pub rising : (i j : ℕ) → i < j → j < count → slice_index after i < slice_index after j
  pub each : (o : ℕ) → Conclusion ls o ↔ ((i : ℕ) × (i < count) × (slice_index after i ≡ o))
  pub beyond : (i : ℕ) → count ≤ i → slice_index after i ≡ slice_index before i

-- a row below 512 entries is too short
abbrev pub Lists : List Link → List ℕ → List ℕ → Result ℕ Refusal → Type 0
Lists ls before after answer = Says (on TooShort (length before < 512) no_other) (λ count. Listed ls before after count) (after ≡ before) answer
