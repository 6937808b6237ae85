-- The text of a line under construction, what adding a piece to it does, and lines as words between spaces.
-- Assumes nothing.
use Rattle.std.specs.Prelude.{◌≡◌, ℕ, ◌+◌, ◌<◌, ◌≤◌, List, [], ◌∷◌, ◌++◌, length, take, Ok, Err, Result, ⊤}
use Rattle.line.specs.declared.Line.{Line}
use Rattle.line.specs.declared.full.Full.{Full}

-- what a line says so far
unfoldable pub text_of : {N : ℕ} → Line N → List ℕ
text_of line = take line.len line.bytes

-- A piece goes at the end where the whole has at most so many bytes, and else is refused whole.
abbrev pub Adds : ℕ → List ℕ → List ℕ → List ℕ → Result ⊤ Full → Type 0
Adds most piece before after (Ok _) = (length before + length piece ≤ most) × (after ≡ before ++ piece)
Adds most piece before after (Err _) = (most < length before + length piece) × (after ≡ before)

-- Words with a space (32) between any two, and a newline (10) at the end.
abbrev pub line_of : List (List ℕ) → List ℕ
line_of [] = 10 ∷ []
line_of (word ∷ []) = word ++ 10 ∷ []
line_of (word ∷ next ∷ words) = word ++ 32 ∷ line_of (next ∷ words)
