-- A list of reasons read one by one: that none fits, and that one is the first that does.
-- A function that tests its reasons in order passes those that do not fit by `first_past` and stops by `first_at`.
use Rattle.std.proofs.Common.{◌≡◌, ℕ, ◌<◌, ◌≤◌, Bool, true, false, eqb, Ok, Err, Result, sym, refl, subst, inl, inr, ⊎_elim, arith, eqb-true}
use Rattle.std.proofs.lemmas.Bool.{eq-eqb, ne_eqb}
use Rattle.refusals.specs.declared.refusal.Refusal.{Refusal}
use Rattle.refusals.specs.Numbers.{number_of}
use Rattle.refusals.specs.Reasons.{If, on, no_other, ◌before◌, First, Checks}

neither : (b : Bool) {P Q : Type 0} → (P → ⊥) → (Q → ⊥) → If b P Q → ⊥
neither true np nq h = np h
neither false np nq h = nq h

only_rest : (b : Bool) (P : Type 0) {Q : Type 0} → (b ≡ true → ⊥) → (Q → ⊥) → If b P Q → ⊥
only_rest true P nb nq h = nb refl
only_rest false P nb nq h = nq h

pub none_on : (r : Refusal) {P : Type 0} {rest : Refusal → Type 0} → (P → ⊥) → ((why : Refusal) → rest why → ⊥) → (why : Refusal) → on r P rest why → ⊥
none_on r np nr why h = neither (eqb (number_of r) (number_of why)) np (nr why) h

pub none_other : (why : Refusal) → no_other why → ⊥
none_other why h = h

-- a reason that does not fit is passed
pub first_past : (r : Refusal) {P : Type 0} {rest : Refusal → Type 0} {why : Refusal} → eqb (number_of r) (number_of why) ≡ false → (P → ⊥) → First rest why → First (on r P rest) why
first_past r {P} {rest} {why} e np f =
    record {
      fits = subst (λ (b : Bool). If b P (rest why)) (sym e) f.fits;
      least = λ w l h. neither (eqb (number_of r) (number_of w)) np (λ x. f.least w l x) h;
    }

-- this one fits, and the reasons after it have higher numbers
pub first_at : (r : Refusal) {P : Type 0} {rest : Refusal → Type 0} → P → ((w : Refusal) → number_of w < number_of r → rest w → ⊥) → First (on r P rest) r
first_at r {P} {rest} p later =
    record {
      fits = subst (λ (b : Bool). If b P (rest r)) (sym (eq-eqb (number_of r) (number_of r) refl)) p;
      least = λ w l h. only_rest (eqb (number_of r) (number_of w)) P (λ e. let q = eqb-true (number_of r) (number_of w) e in omega arith) (later w l) h;
    }

-- Lists joined. The reasons of A have numbers up to k, those of B past k.
pub record Parted (k : ℕ) (A B : Refusal → Type 0) : Type 0 where
  pub upto : (w : Refusal) → A w → number_of w ≤ k
  pub past : (w : Refusal) → B w → k < number_of w

pub upto_on : (k : ℕ) (r : Refusal) (P : Type 0) (rest : Refusal → Type 0) → number_of r ≤ k → ((w : Refusal) → rest w → number_of w ≤ k) → (w : Refusal) → on r P rest w → number_of w ≤ k
upto_on k r P rest low more w h = at_test (eqb (number_of r) (number_of w)) refl h
  where
    at_test : (b : Bool) → eqb (number_of r) (number_of w) ≡ b → If b P (rest w) → number_of w ≤ k
    at_test true e p = let q = eqb-true (number_of r) (number_of w) e in omega arith
    at_test false e p = more w p

pub past_on : (k : ℕ) (r : Refusal) (P : Type 0) (rest : Refusal → Type 0) → k < number_of r → ((w : Refusal) → rest w → k < number_of w) → (w : Refusal) → on r P rest w → k < number_of w
past_on k r P rest high more w h = at_test (eqb (number_of r) (number_of w)) refl h
  where
    at_test : (b : Bool) → eqb (number_of r) (number_of w) ≡ b → If b P (rest w) → k < number_of w
    at_test true e p = let q = eqb-true (number_of r) (number_of w) e in omega arith
    at_test false e p = more w p

pub upto_other : (k : ℕ) (w : Refusal) → no_other w → number_of w ≤ k
upto_other k w h = absurd h

pub past_other : (k : ℕ) (w : Refusal) → no_other w → k < number_of w
past_other k w h = absurd h

pub none_before : {A B : Refusal → Type 0} → ((why : Refusal) → A why → ⊥) → ((why : Refusal) → B why → ⊥) → (why : Refusal) → (A before B) why → ⊥
none_before na nb why (inl a) = na why a
none_before na nb why (inr b) = nb why b

-- the first of the earlier list is the first of both
pub first_before : {A B : Refusal → Type 0} {why : Refusal} (k : ℕ) → Parted k A B → First A why → First (A before B) why
first_before {A} {B} {why} k p f =
    record {
      fits = inl f.fits;
      least = λ w l h. ⊎_elim (λ a. f.least w l a) (λ b. let x = p.upto why f.fits in let y = p.past w b in omega arith) h;
    }

-- a check of the rest of a list serves for the whole where the reason at its head does not fit
pub checks_on : (r : Refusal) (P : Type 0) (rest : Refusal → Type 0) → ((w : Refusal) → rest w → number_of r < number_of w) → (P → ⊥) → (answer : Result Unit Refusal) → Checks rest answer → Checks (on r P rest) answer
checks_on r P rest past np (Ok u) none = none_on r np none
checks_on r P rest past np (Err why) f = first_past r (ne_eqb (number_of r) (number_of why) (λ e. let h = past why f.fits in omega arith)) np f
