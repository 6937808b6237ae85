-- Which links are cuts, as a test, and the count of them slot by slot.
use Rattle.std.proofs.Common.{◌≡◌, ℕ, ◌<◌, ◌≤◌, Bool, true, false, cond, Decides, ◌+◌, List, length, Option, Some, None, refl, sym, ap, ◌∙◌, subst, ⊎_elim, add-zero, add-one, arith, ltb-true, ltb-false}
use lib.Dec.{ltb}
use Rattle.std.specs.List.{position_or_len}
use Rattle.std.proofs.lemmas.Bool.{both_ways, cases_lt}
use Rattle.std.proofs.lemmas.List.{get_or_past}
use Rattle.std.proofs.lemmas.List.Sums.{fails_before_first, passes_at_first}
use Rattle.reducer.specs.Descents.{LowestIs}
use Rattle.links.specs.declared.link.Link.{Link}
use Rattle.links.specs.declared.link.Link.TheVariants.{Empty, Axiom, Tensor, Par, Cut}
use Rattle.links.specs.Links.{link_at, total, one_if_cut}

abbrev pub is_cut : Link → Bool
is_cut Empty = false
is_cut (Axiom p q a) = false
is_cut (Tensor l r c) = false
is_cut (Par l r c) = false
is_cut (Cut l r) = true

pub is_cut_by : (l : Link) (b : Bool) → Decides b ((x : ℕ) × (y : ℕ) × (l ≡ Cut x y)) → b ≡ is_cut l
is_cut_by Empty true d = let e = (d.0 refl).2 in cc
is_cut_by Empty false d = refl
is_cut_by (Axiom p q a) true d = let e = (d.0 refl).2 in cc
is_cut_by (Axiom p q a) false d = refl
is_cut_by (Tensor l r c) true d = let e = (d.0 refl).2 in cc
is_cut_by (Tensor l r c) false d = refl
is_cut_by (Par l r c) true d = let e = (d.0 refl).2 in cc
is_cut_by (Par l r c) false d = refl
is_cut_by (Cut l r) true d = refl
is_cut_by (Cut l r) false d = d.1 (l, r, refl)

cut_is : (l : Link) → is_cut l ≡ true → (a : ℕ) × (b : ℕ) × (l ≡ Cut a b)
cut_is Empty e = cc
cut_is (Axiom p q a) e = cc
cut_is (Tensor l r c) e = cc
cut_is (Par l r c) e = cc
cut_is (Cut l r) e = (l, r, refl)

-- the first place at which the test passes is the lowest-numbered cut
pub lowest_is : (ls : List Link) (r : Option ℕ) → r ≡ cond (ltb (position_or_len is_cut ls) (length ls)) (Some (position_or_len is_cut ls)) None → LowestIs ls r
lowest_is ls r e = at_test (ltb n (length ls)) refl e
  where
    n : ℕ
    n = position_or_len is_cut ls

    before : (k a b : ℕ) → k < n → link_at ls k ≡ Cut a b → ⊥
    before k a b h is = both_ways (is_cut (link_at ls k)) (fails_before_first is_cut ls k Empty h) (ap is_cut is)

    at_test : (t : Bool) → ltb n (length ls) ≡ t → r ≡ cond t (Some n) None → LowestIs ls r
    at_test true inside is =
        let P : Option ℕ → Type 0 = LowestIs ls in
        let c = cut_is (link_at ls n) (passes_at_first is_cut ls Empty (ltb-true n (length ls) inside)) in
        subst P (sym is) (record { left = c.0; right = c.1; cut = c.2; least = before })
    at_test false past is =
        let P : Option ℕ → Type 0 = LowestIs ls in
        let all : length ls ≤ n = ltb-false n (length ls) past in
        subst P (sym is) (λ k a b e. ⊎_elim (λ h. before k a b h e) (λ h. let beyond = get_or_past ls k Empty (omega arith) in cc) (cases_lt k n))

-- the count of the slots below n + 1, by whether a cut stands at n
pub counted_cut : (ls : List Link) (n : ℕ) → (l : ℕ) × (r : ℕ) × (link_at ls n ≡ Cut l r) → total (λ k. one_if_cut (link_at ls k)) (n + 1) ≡ total (λ k. one_if_cut (link_at ls k)) n + 1
counted_cut ls n h = rw (add-one n) (ap (λ (k : ℕ). total (λ j. one_if_cut (link_at ls j)) n + k) (ap one_if_cut h.2))

pub counted_other : (ls : List Link) (n : ℕ) → ((l : ℕ) × (r : ℕ) × (link_at ls n ≡ Cut l r) → ⊥) → total (λ k. one_if_cut (link_at ls k)) (n + 1) ≡ total (λ k. one_if_cut (link_at ls k)) n
counted_other ls n nay = rw (add-one n) (ap (λ (k : ℕ). total (λ j. one_if_cut (link_at ls j)) n + k) (none (link_at ls n) nay) ∙ add-zero (total (λ j. one_if_cut (link_at ls j)) n))
  where
    none : (z : Link) → ((l : ℕ) × (r : ℕ) × (z ≡ Cut l r) → ⊥) → one_if_cut z ≡ 0
    none Empty h = refl
    none (Axiom p q a) h = refl
    none (Tensor l r c) h = refl
    none (Par l r c) h = refl
    none (Cut l r) h = absurd (h (l, r, refl))
