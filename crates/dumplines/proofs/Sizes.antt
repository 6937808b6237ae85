-- How long the numbers of a line are at most, each with what comes after it.
-- Assumes nothing.
use Rattle.std.proofs.Common.{ℕ, ◌+◌, ◌^◌, ◌<◌, ◌≤◌, List, ◌++◌, length, decimal, arith}
use Rattle.std.proofs.lemmas.Fmt.{length-decimal-le}
use Rattle.std.proofs.lemmas.List.{length-append}
use Rattle.line.proofs.Decimals.{twenty_digits}

-- five digits at most
pub short_number : (n : ℕ) (rest : List ℕ) → n < 2 ^ 16 → length (decimal n ++ rest) ≤ 5 + length rest
short_number n rest h = omega (arith, length-append (decimal n) rest, length-decimal-le 5 n (omega arith) (omega arith) (omega arith))

-- ten
pub delay_number : (n : ℕ) (rest : List ℕ) → n < 2 ^ 32 → length (decimal n ++ rest) ≤ 10 + length rest
delay_number n rest h = omega (arith, length-append (decimal n) rest, length-decimal-le 10 n (omega arith) (omega arith) (omega arith))

-- twenty
pub place_number : (n : ℕ) (rest : List ℕ) → n < 2 ^ 64 → length (decimal n ++ rest) ≤ 20 + length rest
place_number n rest h = omega (arith, length-append (decimal n) rest, length-decimal-le 20 n (omega arith) (omega arith) h)

pub ruleset sizes = (twenty_digits, short_number, delay_number, place_number, length-append)
