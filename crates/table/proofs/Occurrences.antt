-- The numbers of a call, read off the list of its occurrences: what the general check says of two or three of them.
use Rattle.std.proofs.Common.{◌≡◌, ℕ, zero, suc, ◌<◌, ◌⊎◌, Bool, true, false, eqb, [], ◌∷◌, Ok, Err, Result, get_or, sym, refl, subst, inl, inr, ⊎_elim, arith}
use Rattle.std.specs.List.{Any}
use Rattle.refusals.specs.declared.refusal.Refusal.{Refusal}
use Rattle.refusals.specs.declared.refusal.Refusal.TheVariants.{LinkRange, OccurrenceRange, EqualOccurrences, AtomRange}
use Rattle.refusals.specs.Numbers.{number_of}
use Rattle.refusals.specs.Reasons.{Reasons, If, on, no_other, None, Checks, Outside}
use Rattle.refusals.proofs.Refusing.{none_on, none_other}
use Rattle.table.specs.ByLink.{TwoEqual, occurrence_numbers}
use Rattle.table.specs.Refusing.{axiom_numbers, join_numbers, cut_numbers}

-- where the same reasons fit, a check of the one list serves for the other
pub checks_same : {A B : Reasons} → ((w : Refusal) → A w → B w) → ((w : Refusal) → B w → A w) → (answer : Result Unit Refusal) → Checks A answer → Checks B answer
checks_same to from (Ok u) none = λ w b. none w (from w b)
checks_same to from (Err why) f = record { fits = to why f.fits; least = λ w l b. f.least w l (from w b) }

abbrev here : Refusal → Refusal → Bool
here r w = eqb (number_of r) (number_of w)

on_same : (b : Bool) {P Q X Y : Type 0} → (P → Q) → (X → Y) → If b P X → If b Q Y
on_same true f g p = f p
on_same false f g x = g x

on_longer : (b : Bool) {P Q X Y Z : Type 0} → (Q → P) → (Y → X ⊎ Z) → If b Q Y → If b P X ⊎ Z
on_longer true f g q = inl (f q)
on_longer false f g y = g y

-- of two
module _ (P : ℕ → Type 0) (a b : ℕ) where
  in_two : (k x : ℕ) → k < 2 → get_or (a ∷ b ∷ []) k x ≡ x → P x → P a ⊎ P b
  in_two zero x h e p = inl (subst P (sym e) p)
  in_two (suc zero) x h e p = inr (subst P (sym e) p)
  in_two (suc (suc k)) x h e p = absurd (omega arith)

  any_of_two : Any P (a ∷ b ∷ []) → P a ⊎ P b
  any_of_two h = in_two h.0 h.1 h.2 h.3 h.4

  two_any : P a ⊎ P b → Any P (a ∷ b ∷ [])
  two_any (inl p) = (0, a, omega arith, refl, p)
  two_any (inr p) = (1, b, omega arith, refl, p)

equal_in_two : (a b i j : ℕ) → i < j → j < 2 → get_or (a ∷ b ∷ []) i 0 ≡ get_or (a ∷ b ∷ []) j 0 → a ≡ b
equal_in_two a b zero zero h k e = absurd (omega arith)
equal_in_two a b zero (suc zero) h k e = e
equal_in_two a b zero (suc (suc j)) h k e = absurd (omega arith)
equal_in_two a b (suc i) j h k e = absurd (omega arith)

equal_of_two : (a b : ℕ) → TwoEqual (a ∷ b ∷ []) → a ≡ b
equal_of_two a b h = equal_in_two a b h.0 h.1 h.2 h.3 h.4

two_equal : (a b : ℕ) → a ≡ b → TwoEqual (a ∷ b ∷ [])
two_equal a b e = (0, 1, omega arith, omega arith, e)

-- of three
module _ (P : ℕ → Type 0) (a b c : ℕ) where
  in_three : (k x : ℕ) → k < 3 → get_or (a ∷ b ∷ c ∷ []) k x ≡ x → P x → P a ⊎ (P b ⊎ P c)
  in_three zero x h e p = inl (subst P (sym e) p)
  in_three (suc zero) x h e p = inr (inl (subst P (sym e) p))
  in_three (suc (suc zero)) x h e p = inr (inr (subst P (sym e) p))
  in_three (suc (suc (suc k))) x h e p = absurd (omega arith)

  any_of_three : Any P (a ∷ b ∷ c ∷ []) → P a ⊎ (P b ⊎ P c)
  any_of_three h = in_three h.0 h.1 h.2 h.3 h.4

  three_any : P a ⊎ (P b ⊎ P c) → Any P (a ∷ b ∷ c ∷ [])
  three_any (inl p) = (0, a, omega arith, refl, p)
  three_any (inr (inl p)) = (1, b, omega arith, refl, p)
  three_any (inr (inr p)) = (2, c, omega arith, refl, p)

equal_in_three : (a b c i j : ℕ) → i < j → j < 3 → get_or (a ∷ b ∷ c ∷ []) i 0 ≡ get_or (a ∷ b ∷ c ∷ []) j 0 → (a ≡ b) ⊎ ((a ≡ c) ⊎ (b ≡ c))
equal_in_three a b c zero zero h k e = absurd (omega arith)
equal_in_three a b c zero (suc zero) h k e = inl e
equal_in_three a b c zero (suc (suc zero)) h k e = inr (inl e)
equal_in_three a b c zero (suc (suc (suc j))) h k e = absurd (omega arith)
equal_in_three a b c (suc zero) zero h k e = absurd (omega arith)
equal_in_three a b c (suc zero) (suc zero) h k e = absurd (omega arith)
equal_in_three a b c (suc zero) (suc (suc zero)) h k e = inr (inr e)
equal_in_three a b c (suc zero) (suc (suc (suc j))) h k e = absurd (omega arith)
equal_in_three a b c (suc (suc i)) j h k e = absurd (omega arith)

equal_of_three : (a b c : ℕ) → TwoEqual (a ∷ b ∷ c ∷ []) → (a ≡ b) ⊎ ((a ≡ c) ⊎ (b ≡ c))
equal_of_three a b c h = equal_in_three a b c h.0 h.1 h.2 h.3 h.4

three_equal : (a b c : ℕ) → (a ≡ b) ⊎ ((a ≡ c) ⊎ (b ≡ c)) → TwoEqual (a ∷ b ∷ c ∷ [])
three_equal a b c (inl e) = (0, 1, omega arith, omega arith, e)
three_equal a b c (inr (inl e)) = (0, 2, omega arith, omega arith, e)
three_equal a b c (inr (inr e)) = (1, 2, omega arith, omega arith, e)

pub cut_checked : (n l r : ℕ) (answer : Result Unit Refusal) → Checks (occurrence_numbers n (l ∷ r ∷ [])) answer → Checks (cut_numbers n l r) answer
cut_checked n l r =
    checks_same
    (λ w. on_same (here LinkRange w) (λ x. x) (on_same (here OccurrenceRange w) (any_of_two (Outside 512) l r) (on_same (here EqualOccurrences w) (equal_of_two l r) (λ x. x))))
    (λ w. on_same (here LinkRange w) (λ x. x) (on_same (here OccurrenceRange w) (two_any (Outside 512) l r) (on_same (here EqualOccurrences w) (two_equal l r) (λ x. x))))

pub join_checked : (n l r c : ℕ) (answer : Result Unit Refusal) → Checks (occurrence_numbers n (l ∷ r ∷ c ∷ [])) answer → Checks (join_numbers n l r c) answer
join_checked n l r c =
    checks_same
    (λ w. on_same (here LinkRange w) (λ x. x) (on_same (here OccurrenceRange w) (any_of_three (Outside 512) l r c) (on_same (here EqualOccurrences w) (equal_of_three l r c) (λ x. x))))
    (λ w. on_same (here LinkRange w) (λ x. x) (on_same (here OccurrenceRange w) (three_any (Outside 512) l r c) (on_same (here EqualOccurrences w) (three_equal l r c) (λ x. x))))

-- an axiom's numbers: those of two occurrences, and then the atom
module _ (n p q a : ℕ) where
  from_axiom : (w : Refusal) → axiom_numbers n p q a w → occurrence_numbers n (p ∷ q ∷ []) w ⊎ on AtomRange (Outside 1000 a) no_other w
  from_axiom w = on_longer (here LinkRange w) (λ x. x) (on_longer (here OccurrenceRange w) (two_any (Outside 512) p q) (on_longer (here EqualOccurrences w) (two_equal p q) (λ x. inr x)))

  pub axiom_passed : None (occurrence_numbers n (p ∷ q ∷ [])) → (Outside 1000 a → ⊥) → None (axiom_numbers n p q a)
  axiom_passed none nay w b = ⊎_elim (none w) (none_on AtomRange nay none_other w) (from_axiom w b)
