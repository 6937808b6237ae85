-- The stack of links that may be ready: a link taken off makes it shorter by one, one put on makes it longer by at most one.
use Rattle.std.proofs.Common.{◌≡◌, ℕ, ◌+◌, ◌≤◌, ◌∷◌, length, Ok, Err, Result, ap, arith}
use Rattle.stack.specs.declared.Stack.{Stack}
use Rattle.stack.specs.Stacks.{entries, Full, Pushed}

pub popped_one_less : (x : ℕ) (before after : Stack ℕ) → entries before ≡ x ∷ entries after → length (entries before) ≡ length (entries after) + 1
popped_one_less x before after e = let k = ap length e in omega arith

abbrev pub Answered : ℕ → Stack ℕ → Stack ℕ → Result Unit ℕ → Type 0
Answered x before after (Ok u) = Pushed x before after
Answered x before after (Err back) = (back ≡ x) × Full before × (after ≡ before)

pub pushed_one_more : (x : ℕ) (before after : Stack ℕ) (r : Result Unit ℕ) → Answered x before after r → length (entries after) ≤ length (entries before) + 1
pushed_one_more x before after (Ok u) h = let k = ap length h.items in omega arith
pushed_one_more x before after (Err b) h = let k = ap (λ (s : Stack ℕ). length (entries s)) h.2 in omega arith
