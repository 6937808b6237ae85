-- How many decimal digits a number has, and how they are written: the last one, and before it those of a tenth;
-- those of a short number at once.
-- Assumes nothing.
use Rattle.std.proofs.Common.{◌≡◌, ℕ, ◌+◌, ◌/◌, ◌%◌, ◌^◌, ◌<◌, ◌≤◌, List, [], ◌∷◌, ◌++◌, length, drop, set, decimal, ap, ◌∙◌, arith}
use Rattle.std.proofs.lemmas.Fmt.{decimal_digit, decimal_nonempty, decimal_step, length-decimal-le}
use Rattle.std.proofs.lemmas.List.{length_push, length-set, length-take-le, drop-set, drop_all}

pub one_digit : (n : ℕ) → n < 10 → length (decimal n) ≡ 1
one_digit n h = ap length (decimal_digit n h)

-- one more than the number without its last digit
pub one_more_digit : (n : ℕ) → 10 ≤ n → n < 2 ^ 64 → length (decimal n) ≡ length (decimal (n / 10)) + 1
one_more_digit n many small = ap length (decimal_step n many small) ∙ length_push (decimal (n / 10)) (48 + n % 10)

-- a number of two digits, and one of three
pub decimal_two : (n : ℕ) → 10 ≤ n → n < 100 → decimal n ≡ (48 + n / 10) ∷ (48 + n % 10) ∷ []
decimal_two n many few =
    decimal_step n many (omega arith) ∙ ap (λ ds. ds ++ ((48 + n % 10) ∷ [])) (decimal_digit (n / 10) (omega arith))

pub decimal_three : (n : ℕ) → 100 ≤ n → n < 1000 → decimal n ≡ (48 + n / 100) ∷ (48 + n / 10 % 10) ∷ (48 + n % 10) ∷ []
decimal_three n many few =
    let hundredth : n / 10 / 10 ≡ n / 100 = omega arith in
    decimal_step n (omega arith) (omega arith)
    ∙ ap (λ ds. ds ++ ((48 + n % 10) ∷ [])) (decimal_two (n / 10) (omega arith) (omega arith) ∙ ap (λ k. (48 + k) ∷ (48 + n / 10 % 10) ∷ []) hundredth)

-- how a number of one, two or three digits is written
pub ruleset short_decimals = (decimal_digit, decimal_two, decimal_three)

-- a byte written at the end of a row is all that lies there
pub written_last : (row : List ℕ) (at byte : ℕ) → length row ≡ at + 1 → drop at (set row at byte) ≡ byte ∷ []
written_last row at byte long = drop-set row at byte (omega (arith, long)) ∙ ap (λ rest. byte ∷ rest) (drop_all (at + 1) row (omega (arith, long)))

-- and it is the row, where there is no other
pub written_alone : (row : List ℕ) (at byte : ℕ) → length row ≡ 1 → at ≡ 0 → set row at byte ≡ byte ∷ []
written_alone row at byte long first = ap (λ i. set row i byte) first ∙ written_last row 0 byte long

-- twenty digits at most
pub twenty_digits : (n : ℕ) → n < 2 ^ 64 → length (decimal n) ≤ 20
twenty_digits n h = length-decimal-le 20 n (omega arith) (omega arith) h

-- what is known of digits as they are counted and written
pub ruleset digits_written = (one_digit, one_more_digit, twenty_digits, decimal_nonempty, decimal_digit, decimal_step, written_last, written_alone, length-set, length-take-le)
