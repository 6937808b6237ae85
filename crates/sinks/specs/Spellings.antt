-- Steps that are written as bytes: codes that are read back, and bytes that are just the codes of some steps.
-- Assumes nothing.
use Rattle.std.specs.Prelude.{◌≡◌, ℕ, List, [], ◌∷◌, ◌++◌}
use Rattle.std.specs.List.{flat_map}
use Rattle.sinks.specs.declared.step.Step.{Step}

-- bytes that are just the codes of the steps that are read from them
abbrev pub Clean : (Step → List ℕ) → (List ℕ → List Step) → List ℕ → Type 0
Clean code reads bs = flat_map code (reads bs) ≡ bs

-- the code of a step is read back, whatever follows it
pub record ReadBack (code : Step → List ℕ) (reads : List ℕ → List Step) : Type 0 where
  pub none : reads [] ≡ []
  pub one : (s : Step) (rest : List ℕ) → reads (code s ++ rest) ≡ s ∷ reads rest
