-- What writing leaves in the bytes that were lent, and what reading finds there afterwards.
-- Assumes nothing.
use Rattle.std.specs.Prelude.{◌≡◌, ℕ, ◌<◌, List, ◌++◌, length, drop, Some, None, Ok, Option, Result}
use Rattle.records.specs.Reading.{Reads}
use Rattle.records.specs.declared.fault.Fault.{Fault}
use Rattle.records.specs.declared.record.Record.{Record}

-- The bytes replace as many at the front, and their count is told; where there is no room nothing changes.
abbrev pub Puts : List ℕ → List ℕ → List ℕ → Option ℕ → Type 0
Puts bytes before after (Some n) = (n ≡ length bytes) × (after ≡ bytes ++ drop n before)
Puts bytes before after None = (length before < length bytes) × (after ≡ before)

-- Whatever reading may answer at the start of what was written, it is this record, and takes as many bytes.
abbrev pub ReadBack : Record → List ℕ → Option ℕ → Type 0
ReadBack r after (Some n) = (answer : Result (Option Record) Fault) (to : ℕ) → Reads after 0 answer to → (answer ≡ Ok (Some r)) × (to ≡ n)
ReadBack r after None = Unit {0}
