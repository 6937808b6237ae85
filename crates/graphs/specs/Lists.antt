-- Lists as finite sets: what it is to be an entry, to have no entry twice, and how many entries pass a test.
-- Assumes nothing. Tests are on numbers; `In` and `Apart` are for entries of any type.
use Rattle.std.specs.Prelude.{◌≡◌, ℕ, zero, suc, Bool, cond, List, [], ◌∷◌}

-- x is an entry of the list
pub data In {A : Type 0} (x : A) : List A → Type 0 where
  here : {y : A} {ys : List A} → x ≡ y → In x (y ∷ ys)
  there : {y : A} {ys : List A} → In x ys → In x (y ∷ ys)

-- the predicate "is an entry of the list"
abbrev pub Among : {A : Type 0} → List A → A → Type 0
Among xs x = In x xs

-- no entry stands twice
abbrev pub Apart : {A : Type 0} → List A → Type 0
Apart [] = Unit {0}
Apart (x ∷ xs) = (In x xs → ⊥) × Apart xs

-- how many entries pass the test
abbrev pub count : (ℕ → Bool) → List ℕ → ℕ
count p [] = zero
count p (x ∷ xs) = cond (p x) (suc (count p xs)) (count p xs)
