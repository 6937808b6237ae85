-- A test that antt computes at each number below a bound, and what it then says of every such number.
-- Assumes nothing.
use Rattle.std.specs.Prelude.{◌≡◌, ℕ, zero, suc, ◌+◌, ◌<◌, Bool, true, ◌&&◌}
use Rattle.std.proofs.Common.{sym, subst, ◌∙◌, add-zero, zero-add, suc-add, add-suc, le_of_suc-le-suc, not-suc-le-zero}
use Rattle.std.proofs.lemmas.Bool.{and_parts}

-- the test passes at each of n numbers from i on
abbrev from : ℕ → ℕ → (ℕ → Bool) → Bool
from zero i f = true
from (suc n) i f = f i && from n (suc i) f

from_at : (n i : ℕ) (f : ℕ → Bool) → from n i f ≡ true → (k : ℕ) → k < n → f (i + k) ≡ true
from_at zero i f t k h = absurd (not-suc-le-zero h)
from_at (suc n) i f t zero h = rw add-zero (and_parts (f i) (from n (suc i) f) t).0
from_at (suc n) i f t (suc k) h =
    subst (λ (m : ℕ). f m ≡ true) (suc-add i k ∙ sym (add-suc i k))
    (from_at n (suc i) f (and_parts (f i) (from n (suc i) f) t).1 k (le_of_suc-le-suc h))

-- the test passes at each number below n
abbrev pub every : ℕ → (ℕ → Bool) → Bool
every n f = from n 0 f

pub every_at : (n : ℕ) (f : ℕ → Bool) → every n f ≡ true → (k : ℕ) → k < n → f k ≡ true
every_at n f t k h = subst (λ (m : ℕ). f m ≡ true) (zero-add k) (from_at n 0 f t k h)
