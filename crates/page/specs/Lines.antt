-- The lines of a page, and what any bytes say when they are read as a page.
-- Assumes nothing.
use Rattle.std.specs.Prelude.{ℕ, ◌+◌, ◌-◌, ◌*◌, cond, List, [], ◌∷◌, ◌++◌, codes, decimal, ◌==◌}
use Rattle.std.specs.Str.{bytes_eq}
use Rattle.sinks.specs.Steps.{step_of}
use Rattle.links.specs.declared.rule.Rule.{Rule}
use Rattle.links.specs.declared.rule.Rule.TheVariants.{Axiom, Tensor, Par, Cut}
use Rattle.sinks.specs.declared.step.Step.{Step}

abbrev pub name_of : Rule → List ℕ
name_of Axiom = codes "ax"
name_of Tensor = codes "ten"
name_of Par = codes "par"
name_of Cut = codes "cut"

-- the rule's name, a space, the link in decimal and a newline
unfoldable pub line_of : Step → List ℕ
line_of s = name_of s.rule ++ (32 ∷ (decimal s.link ++ 10 ∷ []))

-- A reader goes from byte to byte: through the letters of a name, and after a space through the digits of a number.
pub data Reader : Type 0 where
  in_name : List ℕ → Reader
  in_number : Rule → ℕ → Reader

-- what is no other rule's name is read as `cut`
abbrev pub named : List ℕ → Rule
named letters =
    cond (bytes_eq letters (codes "ax")) Axiom (cond (bytes_eq letters (codes "ten")) Tensor (cond (bytes_eq letters (codes "par")) Par Cut))

-- a space ends a name, and a newline a number
abbrev pub next : Reader → ℕ → Reader
next (in_name letters) b = cond (b == 32) (in_number (named letters) 0) (in_name (letters ++ b ∷ []))
next (in_number r n) b = cond (b == 10) (in_name []) (in_number r (n * 10 + (b - 48)))

-- the step that a byte ends, if any, and what comes after it
abbrev pub ended : Reader → ℕ → List Step → List Step
ended (in_name letters) b after = after
ended (in_number r n) b after = cond (b == 10) (step_of r n ∷ after) after

abbrev pub read_from : Reader → List ℕ → List Step
read_from at [] = []
read_from at (b ∷ bs) = ended at b (read_from (next at b) bs)

-- the steps that any bytes say, one for each newline after a name
unfoldable pub page_steps : List ℕ → List Step
page_steps bs = read_from (in_name []) bs
