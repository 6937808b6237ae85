-- Entries of lists: of a list with one more, of two lists joined, of images, of selections, of the numbers to n.
-- What has no entry twice stays so. Assumes nothing.
use Rattle.std.proofs.Common.{◌≡◌, ℕ, zero, suc, ◌≤◌, Bool, true, false, not, eqb, ◌⊎◌, List, [], ◌∷◌, ◌++◌, map, sym, refl, ap, ◌∙◌, subst, inl, inr, arith}
use Rattle.std.proofs.lemmas.Bool.{cases_eq, cases_Bool, eqb-true, eqb-false, eq-eqb, ne_eqb, not-true, not_from_false, both_ways}
use Rattle.graphs.specs.Lists.In.{here, there}
use Rattle.graphs.specs.Lists.{In, Apart}
use Rattle.graphs.specs.Selections.{has, select, without, upto}

-- one entry more

pub not_in_nil : {A : Type 0} {x : A} → In x [] → ⊥
not_in_nil i = elim i [ ]

pub in_cons : {A : Type 0} {x y : A} {ys : List A} → In x (y ∷ ys) → (x ≡ y) ⊎ In x ys
in_cons (here p) = inl p
in_cons (there i) = inr i

pub in_one : {A : Type 0} {x y : A} → In x (y ∷ []) → x ≡ y
in_one (here p) = p
in_one (there i) = absurd (not_in_nil i)

pub in_two : {A : Type 0} {x y z : A} → In x (y ∷ z ∷ []) → (x ≡ y) ⊎ (x ≡ z)
in_two (here p) = inl p
in_two (there i) = inr (in_one i)

pub apart_one : {A : Type 0} (x : A) → Apart (x ∷ [])
apart_one x = (not_in_nil, tt)

pub apart_two : {A : Type 0} {x y : A} → (x ≡ y → ⊥) → Apart (x ∷ y ∷ [])
apart_two n = (λ i. n (in_one i), (not_in_nil, tt))

-- what holds of the first and of each later entry holds of each
pub each_cons : {A : Type 0} (P : A → Type 0) {y : A} {ys : List A} → P y → ((x : A) → In x ys → P x) → (x : A) → In x (y ∷ ys) → P x
each_cons P h k x (here p) = subst P (sym p) h
each_cons P h k x (there i) = k x i

-- two lists joined

pub in_front : {A : Type 0} {x : A} {xs : List A} (ys : List A) → In x xs → In x (xs ++ ys)
in_front ys (here p) = here p
in_front ys (there i) = there (in_front ys i)

pub in_back : {A : Type 0} {x : A} (xs : List A) {ys : List A} → In x ys → In x (xs ++ ys)
in_back [] i = i
in_back (x ∷ xs) i = there (in_back xs i)

pub in_append : {A : Type 0} {x : A} (xs : List A) {ys : List A} → In x (xs ++ ys) → In x xs ⊎ In x ys
in_append [] i = inr i
in_append (x ∷ xs) (here p) = inl (here p)
in_append (x ∷ xs) (there i) = elim (in_append xs i) [ inl j ↦ inl (there j) | inr j ↦ inr j ]

pub apart_append : {A : Type 0} (xs : List A) {ys : List A} → Apart xs → Apart ys → ((x : A) → In x xs → In x ys → ⊥) → Apart (xs ++ ys)
apart_append [] a b h = b
apart_append (x ∷ xs) a b h = (λ i. elim (in_append xs i) [ inl j ↦ a.0 j | inr j ↦ h x (here refl) j ], apart_append xs a.1 b (λ y j k. h y (there j) k))

-- images

pub in_map : {A B : Type 0} (f : A → B) {x : A} {xs : List A} → In x xs → In (f x) (map f xs)
in_map f (here p) = here (ap f p)
in_map f (there i) = there (in_map f i)

pub from_map : {A B : Type 0} (f : A → B) {y : B} (xs : List A) → In y (map f xs) → (x : A) × In x xs × (y ≡ f x)
from_map f [] i = absurd (not_in_nil i)
from_map f (x ∷ xs) (here p) = (x, here refl, p)
from_map f (x ∷ xs) (there i) = let k = from_map f xs i in (k.0, there k.1, k.2)

-- where no image stands twice, an entry is told by its image
pub told_by_image : {A B : Type 0} (f : A → B) {x y : A} {xs : List A} → Apart (map f xs) → In x xs → In y xs → f x ≡ f y → x ≡ y
told_by_image f a (here q) (here r) p = q ∙ sym r
told_by_image f a (here q) (there j) p = absurd (a.0 (rw (sym p ∙ ap f q) at (in_map f j)))
told_by_image f a (there i) (here r) p = absurd (a.0 (rw (p ∙ ap f r) at (in_map f i)))
told_by_image f a (there i) (there j) p = told_by_image f a.1 i j p

-- tests

pub in_or_not : (x : ℕ) (xs : List ℕ) → In x xs ⊎ (In x xs → ⊥)
in_or_not x [] = inr not_in_nil
in_or_not x (y ∷ ys) =
    elim (cases_eq x y) [
      | inl p ↦ inl (here p)
      | inr h ↦ elim (in_or_not x ys) [ inl i ↦ inl (there i) | inr k ↦ inr (λ j. elim (in_cons j) [ inl p ↦ h p | inr i ↦ k i ]) ]
    ]

pub has_in : (x : ℕ) (xs : List ℕ) → has x xs ≡ true → In x xs
has_in x [] e = absurd (both_ways false refl e)
has_in x (y ∷ ys) e = elim (cases_Bool (eqb x y)) [ inl t ↦ here (eqb-true x y t) | inr f ↦ there (has_in x ys (rw f at e)) ]

pub in_has : (x : ℕ) (xs : List ℕ) → In x xs → has x xs ≡ true
in_has x [] i = absurd (not_in_nil i)
in_has x (y ∷ ys) (here p) = rw (eq-eqb x y p)
in_has x (y ∷ ys) (there i) = let k = in_has x ys i in elim (cases_Bool (eqb x y)) [ inl t ↦ rw t | inr f ↦ rw f k ]

-- some entry is P, or none is
pub some_or_none : {A : Type 0} (P : A → Type 0) (xs : List A) → ((x : A) → In x xs → P x ⊎ (P x → ⊥)) → ((x : A) × In x xs × P x) ⊎ ((x : A) → In x xs → P x → ⊥)
some_or_none P [] d = inr (λ x i p. not_in_nil i)
some_or_none P (x ∷ xs) d =
    elim (d x (here refl)) [
      | inl p ↦ inl (x, here refl, p)
      | inr n ↦ elim (some_or_none P xs (λ y i. d y (there i))) [
        | inl k ↦ inl (k.0, there k.1, k.2)
        | inr h ↦ inr (each_cons (λ y. P y → ⊥) n h)
      ]
    ]

-- an answer comes up at some entry, or each entry is P
pub found_or_each : {A B : Type 0} (P : A → Type 0) (xs : List A) → ((x : A) → In x xs → B ⊎ P x) → B ⊎ ((x : A) → In x xs → P x)
found_or_each P [] h = inr (λ x i. absurd (not_in_nil i))
found_or_each P (x ∷ xs) h =
    elim (h x (here refl)) [
      | inl b ↦ inl b
      | inr p ↦ elim (found_or_each P xs (λ y i. h y (there i))) [ inl b ↦ inl b | inr k ↦ inr (each_cons P p k) ]
    ]

-- selections

pub from_select : (p : ℕ → Bool) {x : ℕ} (ys : List ℕ) → In x (select p ys) → In x ys × (p x ≡ true)
from_select p [] i = absurd (not_in_nil i)
from_select p (y ∷ ys) i =
    elim (cases_Bool (p y)) [
      | inl t ↦ elim (in_cons (rw t at i)) [ inl e ↦ (here e, ap p e ∙ t) | inr j ↦ let k = from_select p ys j in (there k.0, k.1) ]
      | inr f ↦ let k = from_select p ys (rw f at i) in (there k.0, k.1)
    ]

pub in_select : (p : ℕ → Bool) {x : ℕ} (ys : List ℕ) → In x ys → p x ≡ true → In x (select p ys)
in_select p [] i e = absurd (not_in_nil i)
in_select p (y ∷ ys) (here q) e = rw (ap p (sym q) ∙ e) (here q)
in_select p (y ∷ ys) (there i) e =
    let k = in_select p ys i e in
    elim (cases_Bool (p y)) [ inl t ↦ rw t (there k) | inr f ↦ rw f k ]

pub apart_select : (p : ℕ → Bool) (ys : List ℕ) → Apart ys → Apart (select p ys)
apart_select p [] a = tt
apart_select p (y ∷ ys) a =
    let k = apart_select p ys a.1 in
    elim (cases_Bool (p y)) [ inl t ↦ rw t (λ i. a.0 (from_select p ys i).0, k) | inr f ↦ rw f k ]

pub from_without : {x : ℕ} (y : ℕ) (ys : List ℕ) → In x (without y ys) → In x ys × (x ≡ y → ⊥)
from_without {x} y ys i = let k = from_select (λ z. not (eqb z y)) ys i in (k.0, eqb-false x y (not-true (eqb x y) k.1))

pub in_without : {x : ℕ} (y : ℕ) (ys : List ℕ) → In x ys → (x ≡ y → ⊥) → In x (without y ys)
in_without {x} y ys i n = in_select (λ z. not (eqb z y)) ys i (not_from_false (eqb x y) (ne_eqb x y n))

pub apart_without : (x : ℕ) (ys : List ℕ) → Apart ys → Apart (without x ys)
apart_without x ys a = apart_select (λ z. not (eqb z x)) ys a

-- the numbers from n down to 1

pub from_upto : {x : ℕ} (n : ℕ) → In x (upto n) → (1 ≤ x) × (x ≤ n)
from_upto zero i = absurd (not_in_nil i)
from_upto (suc n) (here p) = (omega arith, omega arith)
from_upto (suc n) (there i) = let k = from_upto n i in (k.0, omega arith)

pub in_upto : (x n : ℕ) → 1 ≤ x → x ≤ n → In x (upto n)
in_upto x zero h k = absurd (omega arith)
in_upto x (suc n) h k = elim (cases_eq x (suc n)) [ inl e ↦ here e | inr e ↦ there (in_upto x n h (omega arith)) ]

pub apart_upto : (n : ℕ) → Apart (upto n)
apart_upto zero = tt
apart_upto (suc n) = (λ i. let k = from_upto n i in let h = k.1 in omega arith, apart_upto n)
