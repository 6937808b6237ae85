-- The kinds of records and the numbers by which a header tells them.
-- Assumes nothing.
use Rattle.std.specs.Prelude.{◌≡◌, ℕ, Ok, Err, Result}
use Rattle.records.specs.declared.fault.Fault.{Fault}
use Rattle.records.specs.declared.fault.Fault.TheVariants.{KindUnknown}
use Rattle.records.specs.declared.kind.Kind.{Kind}
use Rattle.records.specs.declared.kind.Kind.TheVariants.{Axiom, Tensor, Par, Cut}
use Rattle.records.specs.Faults.{Known}

abbrev pub code_of : Kind → ℕ
code_of Axiom = 1
code_of Tensor = 2
code_of Par = 3
code_of Cut = 4

-- the kind that the number tells, or that no record has a kind of that number
abbrev pub Names : ℕ → Result Kind Fault → Type 0
Names number (Ok kind) = code_of kind ≡ number
Names number (Err fault) = (fault ≡ KindUnknown) × (Known number → ⊥)
