-- What the format promises: no record's bytes begin another's, so bytes are read in one way only.
-- Assumes nothing.
use Rattle.std.specs.Prelude.{◌≡◌, ℕ, List, ◌++◌, Some, Ok, Option, Result}
use Rattle.std.specs.List.{flat_map}
use Rattle.records.specs.declared.fault.Fault.{Fault}
use Rattle.records.specs.declared.record.Record.{Record}
use Rattle.records.specs.Format.{bytes_of}

-- Bytes that begin with a record begin with no other, and the rest is the same.
abbrev pub PrefixFree : Type 0
PrefixFree = (r q : Record) (rest left : List ℕ) → bytes_of r ++ rest ≡ bytes_of q ++ left → (r ≡ q) × (rest ≡ left)

-- A file of whole records is the file of one list of records only.
abbrev pub OneList : Type 0
OneList = (rs qs : List Record) → flat_map bytes_of rs ≡ flat_map bytes_of qs → rs ≡ qs

-- Both together.
pub record ReadOneWay : Type 0 where
  pub prefix : PrefixFree
  pub lists : OneList

-- Where the bytes begin with those of a record, that record is the answer.
abbrev pub Finds : List ℕ → Result (Option Record) Fault → Type 0
Finds bytes answer = (q : Record) (rest : List ℕ) → bytes ≡ bytes_of q ++ rest → answer ≡ Ok (Some q)
