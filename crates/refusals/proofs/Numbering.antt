-- A refusal is known by its number; so the first reason that fits is one, and where reasons can be decided, it is found.
use Rattle.std.proofs.Common.{◌≡◌, ℕ, zero, suc, ◌<◌, cond, eqb, ◌⊎◌, List, [], ◌∷◌, sym, refl, ap, ◌∙◌, subst, inl, inr, ⊎_elim, arith}
use Rattle.std.proofs.lemmas.Bool.{cases_eq, cases_lt}
use Rattle.refusals.specs.declared.refusal.Refusal.{Refusal}
use Rattle.refusals.specs.declared.refusal.Refusal.TheVariants.{LinkRange, OccurrenceRange, EqualOccurrences, AtomRange, TooShort, NotOwn, LinkStands, OccurrenceStands, PremiseMissing, PremiseUsed, NotDual, NoSuchLink, ConclusionUsed, NotACut, NothingStands, NoRoom, LastSerial}
use Rattle.refusals.specs.Numbers.{number_of}
use Rattle.refusals.specs.Reasons.{None, First}

-- a refusal is known by its number
abbrev pub find : List Refusal → ℕ → Refusal
find [] n = LinkRange
find (r ∷ rs) n = cond (eqb (number_of r) n) r (find rs n)

abbrev pub all : List Refusal
all = LinkRange ∷ OccurrenceRange ∷ EqualOccurrences ∷ AtomRange ∷ TooShort ∷ NotOwn ∷ LinkStands ∷ OccurrenceStands ∷ PremiseMissing ∷ PremiseUsed ∷ NotDual ∷ NoSuchLink ∷ ConclusionUsed ∷ NotACut ∷ NothingStands ∷ NoRoom ∷ LastSerial ∷ []

pub found : (r : Refusal) → find all (number_of r) ≡ r
found LinkRange = refl
found OccurrenceRange = refl
found EqualOccurrences = refl
found AtomRange = refl
found TooShort = refl
found NotOwn = refl
found LinkStands = refl
found OccurrenceStands = refl
found PremiseMissing = refl
found PremiseUsed = refl
found NotDual = refl
found NoSuchLink = refl
found ConclusionUsed = refl
found NotACut = refl
found NothingStands = refl
found NoRoom = refl
found LastSerial = refl

pub one_number_of : (a b : Refusal) → number_of a ≡ number_of b → a ≡ b
one_number_of a b e = sym (found a) ∙ ap (find all) e ∙ found b

pub one_first : (F : Refusal → Type 0) (a b : Refusal) → First F a → First F b → a ≡ b
one_first F a b x y = ⊎_elim
    (λ l. absurd (y.least a l x.fits))
    (λ g. ⊎_elim (λ e. one_number_of a b e) (λ ne. absurd (x.least b (omega (arith, ne)) y.fits)) (cases_eq (number_of a) (number_of b)))
    (cases_lt (number_of a) (number_of b))

pub none_first : {X : Type 0} (F : Refusal → Type 0) (a : Refusal) → None F → First F a → X
none_first F a n x = absurd (n a x.fits)

bound : (r : Refusal) → number_of r < 23
bound LinkRange = omega arith
bound OccurrenceRange = omega arith
bound EqualOccurrences = omega arith
bound AtomRange = omega arith
bound TooShort = omega arith
bound NotOwn = omega arith
bound LinkStands = omega arith
bound OccurrenceStands = omega arith
bound PremiseMissing = omega arith
bound PremiseUsed = omega arith
bound NotDual = omega arith
bound NoSuchLink = omega arith
bound ConclusionUsed = omega arith
bound NotACut = omega arith
bound NothingStands = omega arith
bound NoRoom = omega arith
bound LastSerial = omega arith

module _ (F : Refusal → Type 0) (dec : (r : Refusal) → F r ⊎ (F r → ⊥)) where
  below : (n : ℕ) → ((why : Refusal) × First F why) ⊎ ((r : Refusal) → number_of r < n → F r → ⊥)
  below zero = inr (λ r l. absurd (omega arith))
  below (suc n) = elim (below n) [
    | inl h ↦ inl h
    | inr h ↦ elim (cases_eq (number_of (find all n)) n) [
      | inl e ↦ elim (dec (find all n)) [
        | inl f ↦ inl (find all n, record { fits = f; least = λ r l. h r (omega arith) })
        | inr nf ↦ inr (λ r l x. ⊎_elim (λ q. nf (subst F (one_number_of r (find all n) (q ∙ sym e)) x)) (λ ne. h r (omega (arith, ne)) x) (cases_eq (number_of r) n))
      ]
      | inr ne ↦ inr (λ r l x. ⊎_elim (λ q. ne (ap number_of (ap (find all) (sym q) ∙ found r) ∙ q)) (λ nq. h r (omega (arith, nq)) x) (cases_eq (number_of r) n))
    ]
  ]

  pub first_fit : ((why : Refusal) × First F why) ⊎ None F
  first_fit = elim (below 23) [ inl h ↦ inl h | inr h ↦ inr (λ r x. h r (bound r) x) ]
