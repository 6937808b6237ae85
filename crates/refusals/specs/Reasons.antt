-- Which refusal is answered. A call has reasons to be turned down, a relation `Fits why`; they are written as lists in
-- the order in which they are tried, and the first that fits is answered.
use Rattle.std.specs.Prelude.{ℕ, ◌<◌, Bool, true, false, ◌⊎◌, Ok, Err, Result, ◌==◌}
use Rattle.refusals.specs.declared.refusal.Refusal.{Refusal}
use Rattle.refusals.specs.Numbers.{number_of}

infixr 3 ◌before◌
abbrev pub Reasons : Type 1
Reasons = Refusal → Type 0

abbrev pub If : Bool → Type 0 → Type 0 → Type 0
If true P Q = P
If false P Q = Q

-- this reason fits where P holds, any other as the rest of the list says
abbrev pub on : Refusal → Type 0 → Reasons → Reasons
on why P rest asked = If (number_of why == number_of asked) P (rest asked)

-- the end of a list
abbrev pub no_other : Reasons
no_other asked = ⊥

-- the reasons of one list and then those of another
abbrev pub ◌before◌ : Reasons → Reasons → Reasons
◌before◌ A B why = A why ⊎ B why

-- no reason fits
abbrev pub None : Reasons → Type 0
None Fits = (why : Refusal) → Fits why → ⊥

-- this reason fits, and none with a lower number does
pub record First (Fits : Reasons) (why : Refusal) : Type 0 where
  pub fits : Fits why
  pub least : (sooner : Refusal) → number_of sooner < number_of why → Fits sooner → ⊥

-- no refusal fits and the call acts, or the first that fits is answered and all is kept
abbrev pub Says : {A : Type 0} → Reasons → (A → Type 0) → Type 0 → Result A Refusal → Type 0
Says Fits Acts Keeps (Ok a) = None Fits × Acts a
Says Fits Acts Keeps (Err why) = First Fits why × Keeps

-- a check: it passes, or tells the first reason that fits
abbrev pub Checks : Reasons → Result Unit Refusal → Type 0
Checks Fits (Ok u) = None Fits
Checks Fits (Err why) = First Fits why

-- not from 1 to most
abbrev pub Outside : ℕ → ℕ → Type 0
Outside most n = (n < 1) ⊎ (most < n)
