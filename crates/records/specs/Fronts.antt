-- What the steps of reading one record answer: from its body, and from the front of some bytes.
-- Assumes nothing.
use Rattle.std.specs.Prelude.{◌≡◌, ◌≢◌, ℕ, List, ◌++◌, length, drop, Some, None, Ok, Err, Option, Result}
use Rattle.records.specs.declared.fault.Fault.{Fault}
use Rattle.records.specs.declared.fault.Fault.TheVariants.{CutOff, KindUnknown, WrongLength, FileTooLong}
use Rattle.records.specs.declared.record.Record.{Record}
use Rattle.records.specs.Faults.{Known, Sized, Fits, First}
use Rattle.records.specs.Format.{le2, kind_of, body_of, bytes_of}

-- The record of a known kind with this body, if the length is right.
abbrev pub HasBody : ℕ → List ℕ → Option Record → Type 0
HasBody kind body (Some r) = (kind_of r ≡ kind) × (body_of r ≡ body)
HasBody kind body None = Sized kind (length body) → ⊥

-- The four numbers of a tensor or a par, two bytes each, if they are the body.
abbrev pub HasConnective : List ℕ → Option (ℕ × ℕ × ℕ × ℕ) → Type 0
HasConnective body (Some ns) = le2 ns.0 ++ le2 ns.1 ++ le2 ns.2 ++ le2 ns.3 ≡ body
HasConnective body None = length body ≢ 8

-- The record of a kind with this body, or why there is none; an unknown kind comes first.
abbrev pub ReadsBody : ℕ → List ℕ → Result Record Fault → Type 0
ReadsBody kind body (Ok r) = (kind_of r ≡ kind) × (body_of r ≡ body)
ReadsBody kind body (Err KindUnknown) = Known kind → ⊥
ReadsBody kind body (Err WrongLength) = Known kind × (Sized kind (length body) → ⊥)
ReadsBody kind body (Err CutOff) = ⊥
ReadsBody kind body (Err FileTooLong) = ⊥

-- The record at the front of the bytes, or the first fault that fits there.
abbrev pub ReadsFront : List ℕ → Result Record Fault → Type 0
ReadsFront bytes (Ok r) = bytes ≡ bytes_of r ++ drop (length (bytes_of r)) bytes
ReadsFront bytes (Err fault) = First (Fits bytes) fault
