-- The lines in which a drawing file is shown: their words, between single spaces.
-- Assumes nothing.
use Rattle.std.specs.Prelude.{ℕ, List, [], ◌∷◌, ◌++◌, codes, decimal}
use Rattle.line.specs.Lines.{line_of}
use Rattle.records.specs.declared.record.Record.{Record}
use Rattle.records.specs.declared.record.Record.TheVariants.{Axiom, Tensor, Par, Cut}

abbrev pub name_of : Record → List ℕ
name_of (Axiom link positive negative atom delay) = codes "axiom"
name_of (Tensor link left right conclusion) = codes "tensor"
name_of (Par link left right conclusion) = codes "par"
name_of (Cut link left right) = codes "cut"

-- a record that begins at this byte of the file: its offset, its kind's name and its numbers in the file's order
abbrev pub record_line_lem : ℕ → Record → List ℕ
record_line_lem at (Axiom link positive negative atom delay) = line_of (decimal at ∷ codes "axiom" ∷ decimal link ∷ decimal positive ∷ decimal negative ∷ decimal atom ∷ decimal delay ∷ [])
record_line_lem at (Tensor link left right conclusion) = line_of (decimal at ∷ codes "tensor" ∷ decimal link ∷ decimal left ∷ decimal right ∷ decimal conclusion ∷ [])
record_line_lem at (Par link left right conclusion) = line_of (decimal at ∷ codes "par" ∷ decimal link ∷ decimal left ∷ decimal right ∷ decimal conclusion ∷ [])
record_line_lem at (Cut link left right) = line_of (decimal at ∷ codes "cut" ∷ decimal link ∷ decimal left ∷ decimal right ∷ [])

-- how many records a file without a fault has
abbrev pub count_line_lem : ℕ → List ℕ
count_line_lem count = line_of (codes "records" ∷ decimal count ∷ [])

-- where a fault is, and its number
abbrev pub fault_line_lem : ℕ → ℕ → List ℕ
fault_line_lem place number = line_of (codes "fault" ∷ decimal place ∷ decimal number ∷ [])

-- a space and a number, for each of these, and the newline at the end of a line
abbrev pub ending : List ℕ → List ℕ
ending [] = 10 ∷ []
ending (n ∷ ns) = 32 ∷ (decimal n ++ ending ns)
