-- A line's text and its length, and a piece of a line that has room.
-- Assumes nothing.
use Rattle.std.proofs.Common.{◌≡◌, ℕ, ◌≤◌, Ok, Err, Result, IsOk, List, ◌++◌, length, refl, ap, arith}
use Rattle.std.specs.Bool.{⊤}
use Rattle.std.proofs.lemmas.List.{append_assoc, length-append, length-take-le, take_more_set}
use Rattle.std.proofs.lemmas.Slice.{overwrites}
use Rattle.line.specs.declared.Line.{Line}
use Rattle.line.specs.declared.full.Full.{Full}
use Rattle.line.specs.Lines.{text_of, Adds}

pub text_length : {N : ℕ} (line : Line N) → length (text_of line) ≡ line.len
unfolding text_of
text_length line = length-take-le line.len line.bytes (omega (arith, line.long, line.inside))

-- what a piece that is written past the text does to it
pub ruleset pieces = (text_length, append_assoc, take_more_set, overwrites)

-- A piece of a whole for which there is room is taken, wherever it comes in the whole.
pub piece_fits : (most : ℕ) {whole : List ℕ} → length whole ≤ most → (text piece rest : List ℕ) → text ++ (piece ++ rest) ≡ whole → (after : List ℕ) (answer : Result ⊤ Full) → Adds most piece text after answer → IsOk answer
piece_fits most small text piece rest joined after (Ok _) adds = refl
piece_fits most small text piece rest joined after (Err _) adds =
    absurd (omega (arith, adds.0, small, ap length joined, length-append text (piece ++ rest), length-append piece rest))
