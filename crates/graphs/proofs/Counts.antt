-- Counts of the entries that pass a test, and lengths: of lists of which one lies within the other, and where each
-- entry of one list has an entry of the other for its own. Assumes nothing.
use Rattle.std.proofs.Common.{◌≡◌, ℕ, zero, suc, ◌+◌, ◌<◌, ◌≤◌, Bool, true, false, cond, eqb, List, [], ◌∷◌, ◌++◌, length, sym, refl, ap, ◌∙◌, inl, inr, arith}
use Rattle.std.proofs.lemmas.Bool.{cases_eq, cases_Bool, eq-eqb, ne_eqb, not_from_true, not_from_false}
use Rattle.graphs.specs.Lists.In.{here, there}
use Rattle.graphs.specs.Lists.{In, Apart, count}
use Rattle.graphs.specs.Selections.{select, without}
use Rattle.graphs.proofs.Members.{not_in_nil, in_without, apart_without}

pub count_all : (p : ℕ → Bool) (xs : List ℕ) → ((x : ℕ) → In x xs → p x ≡ true) → count p xs ≡ length xs
count_all p [] h = refl
count_all p (x ∷ xs) h = let k = count_all p xs (λ y i. h y (there i)) in let t = h x (here refl) in grind arith

pub count_none : (p : ℕ → Bool) (xs : List ℕ) → ((x : ℕ) → In x xs → p x ≡ true → ⊥) → count p xs ≡ zero
count_none p [] h = refl
count_none p (x ∷ xs) h = let k = count_none p xs (λ y i. h y (there i)) in let n = h x (here refl) in grind arith

pub count_same : (p q : ℕ → Bool) (xs : List ℕ) → ((x : ℕ) → In x xs → p x ≡ q x) → count p xs ≡ count q xs
count_same p q [] h = refl
count_same p q (x ∷ xs) h = let k = count_same p q xs (λ y i. h y (there i)) in let e = h x (here refl) in grind arith

pub count_append : (p : ℕ → Bool) (xs ys : List ℕ) → count p (xs ++ ys) ≡ count p xs + count p ys
count_append p [] ys = omega arith
count_append p (x ∷ xs) ys = let k = count_append p xs ys in grind arith

pub count_select : (p : ℕ → Bool) (xs : List ℕ) → length (select p xs) ≡ count p xs
count_select p [] = refl
count_select p (x ∷ xs) = let k = count_select p xs in elim (cases_Bool (p x)) [ inl t ↦ rw t (ap suc k) | inr f ↦ rw f k ]

-- an entry that passes makes the count positive
pub count_positive : (p : ℕ → Bool) (x : ℕ) (xs : List ℕ) → In x xs → p x ≡ true → 1 ≤ count p xs
count_positive p x [] i t = absurd (not_in_nil i)
count_positive p x (y ∷ ys) (here e) t = grind arith
count_positive p x (y ∷ ys) (there i) t = let k = count_positive p x ys i t in grind arith

pub positive_count_has_one : (p : ℕ → Bool) (xs : List ℕ) → 1 ≤ count p xs → (x : ℕ) × In x xs × (p x ≡ true)
positive_count_has_one p [] l = absurd (omega arith)
positive_count_has_one p (x ∷ xs) l =
    elim (cases_Bool (p x)) [
      | inl t ↦ (x, here refl, t)
      | inr f ↦ let k = positive_count_has_one p xs (rw f at l) in (k.0, there k.1, k.2)
    ]

-- two entries that pass
pub record Pair (p : ℕ → Bool) (xs : List ℕ) : Type 0 where
  pub one : ℕ
  pub other : ℕ
  pub one_in : In one xs
  pub other_in : In other xs
  pub one_passes : p one ≡ true
  pub other_passes : p other ≡ true
  pub differ : one ≡ other → ⊥

pub count_of_two_has_a_pair : (p : ℕ → Bool) (xs : List ℕ) → Apart xs → 2 ≤ count p xs → Pair p xs
count_of_two_has_a_pair p [] a l = absurd (omega arith)
count_of_two_has_a_pair p (x ∷ xs) a l =
    elim (cases_Bool (p x)) [
      | inl t ↦
          let m : 1 ≤ count p xs = grind arith in
          let k = positive_count_has_one p xs m in
          record { one = x; other = k.0; one_in = here refl; other_in = there k.1; one_passes = t; other_passes = k.2; differ = λ e. a.0 (rw (sym e) at k.1) }
      | inr f ↦
          let k = count_of_two_has_a_pair p xs a.1 (rw f at l) in
          record { one = k.one; other = k.other; one_in = there k.one_in; other_in = there k.other_in; one_passes = k.one_passes; other_passes = k.other_passes; differ = k.differ }
    ]

pub count_at_most_one : (p : ℕ → Bool) (xs : List ℕ) → Apart xs → ((x y : ℕ) → In x xs → In y xs → p x ≡ true → p y ≡ true → x ≡ y) → count p xs ≤ 1
count_at_most_one p [] a h = omega arith
count_at_most_one p (x ∷ xs) a h =
    let k = count_at_most_one p xs a.1 (λ y z i j. h y z (there i) (there j)) in
    let z : p x ≡ true → count p xs ≡ zero = λ t. count_none p xs (λ y i u. a.0 (rw (h y x (there i) (here refl) u t) at i)) in
    grind arith

-- two tests that differ at b alone
pub count_one_less : (p q : ℕ → Bool) (b : ℕ) (xs : List ℕ) → Apart xs → In b xs → p b ≡ true → q b ≡ false → ((x : ℕ) → (x ≡ b → ⊥) → p x ≡ q x) → count p xs ≡ suc (count q xs)
count_one_less p q b [] a i t f h = absurd (not_in_nil i)
count_one_less p q b (x ∷ xs) a (here e) t f h = let s = count_same p q xs (λ y i. h y (λ r. a.0 (rw (r ∙ e) at i))) in grind arith
count_one_less p q b (x ∷ xs) a (there i) t f h =
    let k = count_one_less p q b xs a.1 i t f h in
    let e = h x (λ r. a.0 (rw (sym r) at i)) in
    grind arith

-- an entry taken out

without_first : (x y : ℕ) (ys : List ℕ) → x ≡ y → without x (y ∷ ys) ≡ without x ys
without_first x y ys e = rw (not_from_true (eqb y x) (eq-eqb y x (sym e)))

without_other : (x y : ℕ) (ys : List ℕ) → (x ≡ y → ⊥) → without x (y ∷ ys) ≡ y ∷ without x ys
without_other x y ys e = rw (not_from_false (eqb y x) (ne_eqb y x (λ q. e (sym q))))

count_without_absent : (p : ℕ → Bool) (x : ℕ) (ys : List ℕ) → (In x ys → ⊥) → count p (without x ys) ≡ count p ys
count_without_absent p x [] n = refl
count_without_absent p x (y ∷ ys) n =
    let k = count_without_absent p x ys (λ i. n (there i)) in
    ap (count p) (without_other x y ys (λ e. n (here e))) ∙ grind arith

pub count_without : (p : ℕ → Bool) (x : ℕ) (ys : List ℕ) → Apart ys → In x ys → count p ys ≡ cond (p x) 1 0 + count p (without x ys)
count_without p x [] a i = absurd (not_in_nil i)
count_without p x (y ∷ ys) a (here e) =
    let k = count_without_absent p x ys (λ i. a.0 (rw e at i)) in
    let d = ap (count p) (without_first x y ys e) in
    let q = ap p e in
    grind arith
count_without p x (y ∷ ys) a (there i) =
    let k = count_without p x ys a.1 i in
    let d = ap (count p) (without_other x y ys (λ e. a.0 (rw e at i))) in
    grind arith

without_no_longer : (y : ℕ) (ys : List ℕ) → length (without y ys) ≤ length ys
without_no_longer y [] = omega arith
without_no_longer y (z ∷ ys) =
    let k = without_no_longer y ys in
    elim (cases_eq y z) [ inl e ↦ let q = ap length (without_first y z ys e) in omega arith | inr e ↦ let q = ap length (without_other y z ys e) in omega arith ]

pub without_shorter : (y : ℕ) (ys : List ℕ) → In y ys → length (without y ys) < length ys
without_shorter y [] i = absurd (not_in_nil i)
without_shorter y (z ∷ ys) (here e) = let q = ap length (without_first y z ys e) in let k = without_no_longer y ys in omega arith
without_shorter y (z ∷ ys) (there i) =
    let k = without_shorter y ys i in
    elim (cases_eq y z) [ inl e ↦ let q = ap length (without_first y z ys e) in omega arith | inr e ↦ let q = ap length (without_other y z ys e) in omega arith ]

-- one list within another

pub count_within : (p : ℕ → Bool) (xs ys : List ℕ) → Apart xs → Apart ys → ((x : ℕ) → In x xs → In x ys) → count p xs ≤ count p ys
count_within p [] ys a b h = omega arith
count_within p (x ∷ xs) ys a b h =
    let k = count_within p xs (without x ys) a.1 (apart_without x ys b) (λ y i. in_without x ys (h y (there i)) (λ e. a.0 (rw e at i))) in
    let c = count_without p x ys b (h x (here refl)) in
    grind arith

pub count_agrees : (p : ℕ → Bool) (xs ys : List ℕ) → Apart xs → Apart ys → ((x : ℕ) → In x xs → In x ys) → ((x : ℕ) → In x ys → In x xs) → count p xs ≡ count p ys
count_agrees p xs ys a b h k = let u = count_within p xs ys a b h in let v = count_within p ys xs b a k in omega arith

-- each entry of xs has an entry of ys for its own
pub own_each_no_longer : (R : ℕ → ℕ → Type 0) (xs ys : List ℕ) → Apart xs → ((x : ℕ) → In x xs → (y : ℕ) × In y ys × R x y) → ((x z y : ℕ) → R x y → R z y → x ≡ z) → length xs ≤ length ys
own_each_no_longer R [] ys a h one = omega arith
own_each_no_longer R (x ∷ xs) ys a h one =
    let m = h x (here refl) in
    let k = own_each_no_longer R xs (without m.0 ys) a.1 (λ z i. let q = h z (there i) in (q.0, in_without m.0 ys q.1 (λ e. a.0 (rw (one z x m.0 (rw e at q.2) m.2) at i)), q.2)) one in
    let l = without_shorter m.0 ys m.1 in
    omega arith

pub within_no_longer : (xs ys : List ℕ) → Apart xs → ((x : ℕ) → In x xs → In x ys) → length xs ≤ length ys
within_no_longer xs ys a h = own_each_no_longer (λ x y. x ≡ y) xs ys a (λ x i. (x, h x i, refl)) (λ x z y p q. p ∙ sym q)
