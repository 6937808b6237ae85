-- The bytes of a record in a drawing file: a body length, a kind and a body.
-- Every number takes two bytes, the low one first; an axiom's delay takes four. Assumes nothing.
use Rattle.std.specs.Prelude.{ℕ, ◌/◌, ◌%◌, List, [], ◌∷◌, ◌++◌}
use Rattle.records.specs.declared.record.Record.{Record}
use Rattle.records.specs.declared.record.Record.TheVariants.{Axiom, Tensor, Par, Cut}

-- two bytes, little-endian; the second is a byte where the number is below 65,536
abbrev pub le2 : ℕ → List ℕ
le2 n = n % 256 ∷ n / 256 ∷ []

-- four bytes, little-endian; the last is a byte where the number is below 4,294,967,296
abbrev pub le4 : ℕ → List ℕ
le4 n = n % 256 ∷ n / 256 % 256 ∷ n / 65536 % 256 ∷ n / 16777216 ∷ []

abbrev pub kind_of : Record → ℕ
kind_of (Axiom link positive negative atom delay) = 1
kind_of (Tensor link left right conclusion) = 2
kind_of (Par link left right conclusion) = 3
kind_of (Cut link left right) = 4

-- how many bytes the body has
abbrev pub length_of : Record → ℕ
length_of (Axiom link positive negative atom delay) = 12
length_of (Tensor link left right conclusion) = 8
length_of (Par link left right conclusion) = 8
length_of (Cut link left right) = 6

abbrev pub body_of : Record → List ℕ
body_of (Axiom link positive negative atom delay) = le2 link ++ le2 positive ++ le2 negative ++ le2 atom ++ le4 delay
body_of (Tensor link left right conclusion) = le2 link ++ le2 left ++ le2 right ++ le2 conclusion
body_of (Par link left right conclusion) = le2 link ++ le2 left ++ le2 right ++ le2 conclusion
body_of (Cut link left right) = le2 link ++ le2 left ++ le2 right

-- the whole record: the length of its body, its kind and its body
unfoldable pub bytes_of : Record → List ℕ
bytes_of r = le2 (length_of r) ++ le2 (kind_of r) ++ body_of r
