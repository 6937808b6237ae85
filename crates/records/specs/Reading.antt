-- What reading answers: the record whose bytes come next, that the file is at its end, or the first fault.
-- Assumes nothing.
use Rattle.std.specs.Prelude.{◌≡◌, ℕ, ◌+◌, ◌<◌, ◌≤◌, List, [], ◌∷◌, ◌++◌, length, drop, Some, None, Ok, Err, Option, Result}
use Rattle.std.specs.List.{flat_map}
use Rattle.records.specs.declared.fault.Fault.{Fault}
use Rattle.records.specs.declared.fault.Fault.TheVariants.{FileTooLong}
use Rattle.records.specs.declared.record.Record.{Record}
use Rattle.records.specs.Faults.{Fits, First}
use Rattle.records.specs.Format.{bytes_of}

-- A reader is opened at the start of a file of at most 16,384 bytes.
abbrev pub Opens : List ℕ → List ℕ → ℕ → Type 0
Opens given file at = (length given ≤ 16384) × (file ≡ given) × (at ≡ 0)

-- A longer file has this fault.
abbrev pub TooLong : List ℕ → Fault → Type 0
TooLong given fault = (16384 < length given) × (fault ≡ FileTooLong)

-- A reader at the place `from` of the file answers this and stands at the place `to`.
-- The end of the file is no fault.
abbrev pub Reads : List ℕ → ℕ → Result (Option Record) Fault → ℕ → Type 0
Reads file from (Ok (Some r)) to = (drop from file ≡ bytes_of r ++ drop to file) × (to ≡ from + length (bytes_of r))
Reads file from (Ok None) to = (length file ≤ from) × (to ≡ from)
Reads file from (Err fault) to = (from < length file) × First (Fits (drop from file)) fault × (to ≡ from)

-- The records before this place of the file, from its start on: their bytes and no others stand there.
pub record Walked (file : List ℕ) (rs : List Record) (at : ℕ) : Type 0 where
  pub front : file ≡ flat_map bytes_of rs ++ drop at file
  pub place : at ≡ length (flat_map bytes_of rs)

-- what an answer adds to the records read before
abbrev pub gained : Result (Option Record) Fault → List Record
gained (Ok (Some r)) = r ∷ []
gained (Ok None) = []
gained (Err fault) = []

-- Whatever records were read before, those and the answer's are read now.
abbrev pub Walks : List ℕ → ℕ → Result (Option Record) Fault → ℕ → Type 0
Walks file from answer to = (rs : List Record) → Walked file rs from → Walked file (rs ++ gained answer) to
