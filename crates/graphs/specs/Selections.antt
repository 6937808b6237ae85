-- Tests and selections that compute: for code that goes over arrays, and for lists that are written out.
-- Assumes nothing.
use Rattle.std.specs.Prelude.{ℕ, zero, suc, Bool, true, false, cond, not, List, [], ◌∷◌, ◌==◌}

-- the test whether x is an entry
abbrev pub has : ℕ → List ℕ → Bool
has x [] = false
has x (y ∷ ys) = cond (x == y) true (has x ys)

-- the entries that pass the test, in their order
abbrev pub select : (ℕ → Bool) → List ℕ → List ℕ
select p [] = []
select p (x ∷ xs) = cond (p x) (x ∷ select p xs) (select p xs)

-- the entries other than x
abbrev pub without : ℕ → List ℕ → List ℕ
without x xs = select (λ y. not (y == x)) xs

-- the numbers from n down to 1
abbrev pub upto : ℕ → List ℕ
upto zero = []
upto (suc n) = suc n ∷ upto n
