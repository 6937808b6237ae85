-- The faults of a drawing file: their numbers, when each fits, and which of those that fit is told.
-- Assumes nothing.
use Rattle.std.specs.Prelude.{◌≡◌, ℕ, ◌+◌, ◌*◌, ◌<◌, ◌⊎◌, List, length, slice_index}
use Rattle.records.specs.declared.fault.Fault.{Fault}
use Rattle.records.specs.declared.fault.Fault.TheVariants.{CutOff, KindUnknown, WrongLength, FileTooLong}
use Rattle.records.specs.declared.record.Record.{Record}
use Rattle.records.specs.Format.{kind_of, length_of}

abbrev pub number_of : Fault → ℕ
number_of CutOff = 6
number_of KindUnknown = 7
number_of WrongLength = 8
number_of FileTooLong = 9

-- the number that the two bytes from place i on hold
abbrev pub number_at : List ℕ → ℕ → ℕ
number_at bytes i = slice_index bytes i + slice_index bytes (i + 1) * 256

-- what the header at the front of the bytes says
abbrev pub said_length : List ℕ → ℕ
said_length bytes = number_at bytes 0

abbrev pub said_kind : List ℕ → ℕ
said_kind bytes = number_at bytes 2

-- some record has this kind
abbrev pub Known : ℕ → Type 0
Known kind = (r : Record) × (kind_of r ≡ kind)

-- some record has this kind and a body of this length
abbrev pub Sized : ℕ → ℕ → Type 0
Sized kind len = (r : Record) × ((kind_of r ≡ kind) × (length_of r ≡ len))

-- When each fault fits the record at the front of the bytes. That the file is too long is no fault of a record.
abbrev pub Fits : List ℕ → Fault → Type 0
Fits bytes CutOff = (length bytes < 4) ⊎ (length bytes < 4 + said_length bytes)
Fits bytes KindUnknown = Known (said_kind bytes) → ⊥
Fits bytes WrongLength = Sized (said_kind bytes) (said_length bytes) → ⊥
Fits bytes FileTooLong = ⊥

-- of the faults that fit, this one has the lowest number
pub record First (P : Fault → Type 0) (fault : Fault) : Type 0 where
  pub fits : P fault
  pub earliest : (other : Fault) → number_of other < number_of fault → P other → ⊥
