-- Numbers as bytes: a number made of its bytes, and the numbers that stand one after another in a list.
-- Assumes nothing.
use Rattle.std.proofs.Common.{◌≡◌, ℕ, ◌+◌, ◌<◌, List, [], ◌∷◌, ◌++◌, length, get_or, drop, refl, arith}
use Rattle.std.proofs.lemmas.List.{drop_more}
use Rattle.records.specs.Format.{le2}

-- what is left at place i is the byte there and what is left at the next place
pub byte_at : (bytes : List ℕ) (i next : ℕ) → i < length bytes → next ≡ i + 1 → drop i bytes ≡ get_or bytes i 0 ∷ drop next bytes
byte_at bytes i next inside e = rw e (drop_more bytes i 0 inside)

-- where the two bytes from place i on are a number's, the number's bytes and what comes after are what is left there
pub number_at : (bytes : List ℕ) (i n : ℕ) → i + 1 < length bytes → le2 n ≡ get_or bytes i 0 ∷ get_or bytes (i + 1) 0 ∷ [] → le2 n ++ drop (i + 2) bytes ≡ drop i bytes
number_at bytes i n inside e =
    let first = byte_at bytes i (i + 1) (omega arith) refl in
    let second = byte_at bytes (i + 1) (i + 2) inside (omega arith) in
    cc
