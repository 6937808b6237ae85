-- What the table of the 24 routes is: each row has four different lanes, a row's rank is its place, and any four
-- different lanes are the row of their rank. Each fact is one test over all rows, or over all that could be rows.
-- Assumes nothing.
use Rattle.std.specs.Prelude.{◌≡◌, ℕ, zero, suc, ◌%◌, ◌<◌, ◌≤◌, Bool, true, false, not, ◌&&◌, ◌||◌, List, [], length, get_or, ◌==◌, nat_le, nat_lt, slice_index, slice_index_or, refl}
use Rattle.std.proofs.Common.{sym, ap, subst, ◌∙◌, ⊎_elim, mod-lt, arith, lit<, lit≤}
use Rattle.std.proofs.lemmas.List.{ext_get_or}
use Rattle.std.proofs.lemmas.Bool.{and_parts, or_cases, or_from, eqb-true, eqb-false, leb-true, not-true, ne_eqb, both_ways, cond_both}
use Rattle.labels.specs.Routes.{to, routes, lanes_of, lane_of, FourLanes, below, rank}
use Rattle.labels.specs.declared.route.Route.{Route}
use Rattle.labels.specs.Counts.{every, every_at}

-- the row at a place of the table, and the lane at a place of a row
row : ℕ → List ℕ
row n = slice_index_or routes n []

entry : ℕ → ℕ → ℕ
entry n i = slice_index (row n) i

place : (r : Route) → r.code % 24 < 24
place r = mod-lt r.code (lit< tt)

-- the route of a code
unfoldable pub coded : ℕ → Route
coded n = record { code = n }

-- a list of four is its four entries
pub four_is : (ls : List ℕ) → length ls ≡ 4 → ls ≡ to (slice_index ls 0) (slice_index ls 1) (slice_index ls 2) (slice_index ls 3)
four_is ls e = ext_get_or 0 ls (to (slice_index ls 0) (slice_index ls 1) (slice_index ls 2) (slice_index ls 3)) e (λ i h. at i (omega arith))
  where
    at : (i : ℕ) → i < 4 → slice_index ls i ≡ slice_index (to (slice_index ls 0) (slice_index ls 1) (slice_index ls 2) (slice_index ls 3)) i
    at zero h = refl
    at (suc zero) h = refl
    at (suc (suc zero)) h = refl
    at (suc (suc (suc zero))) h = refl
    at (suc (suc (suc (suc i)))) h = absurd (omega arith)

-- a row's rank is its place
ranked : ℕ → Bool
ranked n = rank (entry n 0) (entry n 1) (entry n 2) (entry n 3) == n

all_ranked : every 24 ranked ≡ true
unfolding ranked entry row rank routes
all_ranked = refl

pub rank_of_row : (r : Route) → rank (lane_of r 1) (lane_of r 2) (lane_of r 3) (lane_of r 4) ≡ r.code % 24
unfolding ranked entry row lanes_of
rank_of_row r = eqb-true (rank (lane_of r 1) (lane_of r 2) (lane_of r 3) (lane_of r 4)) (r.code % 24) (every_at 24 ranked all_ranked (r.code % 24) (place r))

-- each row has four different lanes
is_lane : ℕ → Bool
is_lane i = nat_le 1 i && nat_le i 4

apart_from : (ℕ → ℕ) → ℕ → Bool
apart_from f j = every j (λ i. not (f i == f j))

lanes : ℕ → Bool
lanes n = length (row n) == 4 && (every 4 (λ i. is_lane (entry n i)) && every 4 (apart_from (entry n)))

all_lanes : every 24 lanes ≡ true
unfolding lanes is_lane apart_from entry row routes
all_lanes = refl

pub four_lanes : (r : Route) → FourLanes (lanes_of r)
unfolding lanes is_lane apart_from entry row lanes_of
four_lanes r =
    let n : ℕ = r.code % 24 in
    let all = and_parts (length (row n) == 4) (every 4 (λ i. is_lane (entry n i)) && every 4 (apart_from (entry n))) (every_at 24 lanes all_lanes n (place r)) in
    let both = and_parts (every 4 (λ i. is_lane (entry n i))) (every 4 (apart_from (entry n))) all.1 in
    record {
      four = eqb-true (length (row n)) 4 all.0;
      each = λ i h.
          let is = and_parts (nat_le 1 (entry n i)) (nat_le (entry n i) 4) (every_at 4 (λ i. is_lane (entry n i)) both.0 i h) in
          (leb-true 1 (entry n i) is.0, leb-true (entry n i) 4 is.1);
      apart = λ i j h k. eqb-false (entry n i) (entry n j) (not-true (entry n i == entry n j) (every_at j (λ i. not (entry n i == entry n j)) (every_at 4 (apart_from (entry n)) both.1 j k) i h));
    }

-- four different lanes are the row of their rank: a test over all rows of four lanes, which lets equal lanes pass
any_equal : ℕ → ℕ → ℕ → ℕ → Bool
any_equal a b c d = a == b || (a == c || (a == d || (b == c || (b == d || c == d))))

is_row : ℕ → ℕ → ℕ → ℕ → Bool
is_row a b c d =
    let r : Route = coded (rank a b c d) in
    (lane_of r 1 == a) && (lane_of r 2 == b && (lane_of r 3 == c && lane_of r 4 == d))

found : ℕ → ℕ → ℕ → ℕ → Bool
found a b c d = any_equal (suc a) (suc b) (suc c) (suc d) || is_row (suc a) (suc b) (suc c) (suc d)

all_found : every 4 (λ a. every 4 (λ b. every 4 (λ c. every 4 (found a b c)))) ≡ true
unfolding found any_equal is_row coded lanes_of rank routes
all_found = refl

none_equal : (a b c d : ℕ) → FourLanes (to a b c d) → any_equal a b c d ≡ false
unfolding any_equal
none_equal a b c d f =
    let differ : (i j : ℕ) → i < j → j < 4 → (slice_index (to a b c d) i == slice_index (to a b c d) j) ≡ false = λ i j h k. ne_eqb _ _ (f.apart i j h k) in
    or_from (a == b) _ (differ 0 1 (lit< tt) (lit< tt))
    (or_from (a == c) _ (differ 0 2 (lit< tt) (lit< tt))
    (or_from (a == d) _ (differ 0 3 (lit< tt) (lit< tt))
    (or_from (b == c) _ (differ 1 2 (lit< tt) (lit< tt)) (or_from (b == d) (c == d) (differ 1 3 (lit< tt) (lit< tt)) (differ 2 3 (lit< tt) (lit< tt))))))

row_found : (a b c d : ℕ) → is_row a b c d ≡ true → lanes_of (coded (rank a b c d)) ≡ to a b c d
unfolding is_row
row_found a b c d t =
    let r : Route = coded (rank a b c d) in
    let one = and_parts (lane_of r 1 == a) (lane_of r 2 == b && (lane_of r 3 == c && lane_of r 4 == d)) t in
    let two = and_parts (lane_of r 2 == b) (lane_of r 3 == c && lane_of r 4 == d) one.1 in
    let three = and_parts (lane_of r 3 == c) (lane_of r 4 == d) two.1 in
    let p = eqb-true (lane_of r 1) a one.0 in
    let q = eqb-true (lane_of r 2) b two.0 in
    let u = eqb-true (lane_of r 3) c three.0 in
    let v = eqb-true (lane_of r 4) d three.1 in
    four_is (lanes_of r) (four_lanes r).four ∙ cc

pub row_of_rank : (a b c d : ℕ) → FourLanes (to a b c d) → lanes_of (coded (rank a b c d)) ≡ to a b c d
unfolding found
row_of_rank (suc a) (suc b) (suc c) (suc d) f =
    let at_a = every_at 4 (λ a. every 4 (λ b. every 4 (λ c. every 4 (found a b c)))) all_found a (omega (arith, f.each 0 (lit< tt))) in
    let at_b = every_at 4 (λ b. every 4 (λ c. every 4 (found a b c))) at_a b (omega (arith, f.each 1 (lit< tt))) in
    let at_c = every_at 4 (λ c. every 4 (found a b c)) at_b c (omega (arith, f.each 2 (lit< tt))) in
    let at-d = every_at 4 (found a b c) at_c d (omega (arith, f.each 3 (lit< tt))) in
    ⊎_elim (λ e. absurd (both_ways (any_equal (suc a) (suc b) (suc c) (suc d)) (none_equal (suc a) (suc b) (suc c) (suc d) f) e)) (row_found (suc a) (suc b) (suc c) (suc d))
    (or_cases (any_equal (suc a) (suc b) (suc c) (suc d)) (is_row (suc a) (suc b) (suc c) (suc d)) at-d)
row_of_rank zero b c d f = absurd (omega (arith, f.each 0 (lit< tt)))
row_of_rank (suc a) zero c d f = absurd (omega (arith, f.each 1 (lit< tt)))
row_of_rank (suc a) (suc b) zero d f = absurd (omega (arith, f.each 2 (lit< tt)))
row_of_rank (suc a) (suc b) (suc c) zero f = absurd (omega (arith, f.each 3 (lit< tt)))

-- every rank is a place
below_le : (i j : ℕ) → below i j ≤ 1
below_le i j = cond_both (nat_lt i j) 1 0 (λ n. n ≤ 1) (λ e. lit≤ tt) (λ e. lit≤ tt)

pub rank_lt : (a b c d : ℕ) → rank a b c d < 24
unfolding rank
rank_lt a b c d = omega (arith, below_le b a, below_le c a, below_le d a, below_le c b, below_le d b, below_le d c)

-- both ways between lanes and codes, for lanes in a list
pub code_of_lanes : (r : Route) (ls : List ℕ) → lanes_of r ≡ ls → rank (slice_index ls 0) (slice_index ls 1) (slice_index ls 2) (slice_index ls 3) ≡ r.code % 24
code_of_lanes r ls e = ap (λ ls. rank (slice_index ls 0) (slice_index ls 1) (slice_index ls 2) (slice_index ls 3)) (sym e) ∙ rank_of_row r

pub lanes_of_code : (ls : List ℕ) → FourLanes ls → lanes_of (coded (rank (slice_index ls 0) (slice_index ls 1) (slice_index ls 2) (slice_index ls 3))) ≡ ls
lanes_of_code ls f =
    let e = four_is ls f.four in
    row_of_rank (slice_index ls 0) (slice_index ls 1) (slice_index ls 2) (slice_index ls 3) (subst FourLanes e f) ∙ sym e

-- codes with one remainder mean one route, and codes of one route have one remainder
pub same_lanes : (r s : Route) → r.code % 24 ≡ s.code % 24 → lanes_of r ≡ lanes_of s
unfolding lanes_of
same_lanes r s e = ap (λ n. get_or routes n []) e

pub same_code : (r s : Route) → lanes_of r ≡ lanes_of s → r.code % 24 ≡ s.code % 24
same_code r s e = sym (code_of_lanes r (lanes_of s) e) ∙ rank_of_row s
