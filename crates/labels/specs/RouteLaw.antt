-- A route through two routes sends each lane through the first and then through the second: the four lanes so
-- reached are different lanes again, and so a row of the table. Associativity follows lane by lane.
-- Assumes nothing.
use Rattle.std.specs.Prelude.{◌≡◌, ℕ, zero, suc, ◌-◌, ◌<◌, List, slice_index, slice_index_or, refl}
use Rattle.std.proofs.Common.{sym, ◌∙◌, ⊎_elim, arith, lit≤}
use Rattle.std.proofs.Math.Path.{ap}
use Rattle.std.proofs.lemmas.Bool.{cases_order}
use Rattle.labels.specs.Routes.{to, lanes_of, lane_of, IsLane, FourLanes, rank, through}
use Rattle.labels.specs.declared.route.Route.{Route}
use Rattle.labels.specs.RouteTable.{coded, four_lanes, row_of_rank}

-- the entries of a row that a function gives
to_at : (f : ℕ → ℕ) (i : ℕ) → i < 4 → slice_index (to (f 0) (f 1) (f 2) (f 3)) i ≡ f i
to_at f zero h = refl
to_at f (suc zero) h = refl
to_at f (suc (suc zero)) h = refl
to_at f (suc (suc (suc zero))) h = refl
to_at f (suc (suc (suc (suc i)))) h = absurd (omega arith)

-- different lanes at different places
same_place : (ls : List ℕ) → FourLanes ls → (i j : ℕ) → i < 4 → j < 4 → slice_index ls i ≡ slice_index ls j → i ≡ j
same_place ls f i j hi hj e =
    ⊎_elim (λ p. p) (⊎_elim (λ l. absurd (f.apart i j l hj e)) (λ l. absurd (f.apart j i l hi (sym e)))) (cases_order i j)

module _ (first second : Route) where
  -- where the lane at a place ends up
  reached : ℕ → ℕ
  reached i = lane_of second (slice_index (lanes_of first) i)

  lane_there : (i : ℕ) → i < 4 → IsLane (slice_index (lanes_of first) i)
  lane_there i h = (four_lanes first).each i h

  reached_lanes : FourLanes (to (reached 0) (reached 1) (reached 2) (reached 3))
  unfolding reached
  reached_lanes = record {
    four = refl;
    each = λ i h. rw (to_at reached i h) ((four_lanes second).each (slice_index (lanes_of first) i - 1) (omega (arith, lane_there i h)));
    apart = λ i j h k e.
        let p = lane_there i (omega arith) in
        let q = lane_there j k in
        let same : slice_index_or (lanes_of first) i 0 - 1 ≡ slice_index (lanes_of first) j - 1 =
        same_place (lanes_of second) (four_lanes second) (slice_index (lanes_of first) i - 1) (slice_index (lanes_of first) j - 1) (omega arith) (omega arith) (sym (to_at reached i (omega arith)) ∙ e ∙ to_at reached j k) in
        (four_lanes first).apart i j h k (omega arith);
  }

  pub lanes_through : lanes_of (through first second) ≡ to (lane_of second (lane_of first 1)) (lane_of second (lane_of first 2)) (lane_of second (lane_of first 3)) (lane_of second (lane_of first 4))
  unfolding through reached coded
  lanes_through = row_of_rank (reached 0) (reached 1) (reached 2) (reached 3) reached_lanes

  pub lane_through : (i : ℕ) → IsLane i → lane_of (through first second) i ≡ lane_of second (lane_of first i)
  unfolding reached
  lane_through i h = ap (λ ls. slice_index ls (i - 1)) lanes_through ∙ to_at reached (i - 1) (omega arith)

pub through_is : (x y : Route) → through x y ≡ coded (rank (lane_of y (lane_of x 1)) (lane_of y (lane_of x 2)) (lane_of y (lane_of x 3)) (lane_of y (lane_of x 4)))
unfolding through coded
through_is x y = refl

pub through_assoc : (x y z : Route) → through (through x y) z ≡ through x (through y z)
through_assoc x y z =
    let at : (i : ℕ) → IsLane i → lane_of z (lane_of (through x y) i) ≡ lane_of (through y z) (lane_of x i) = λ i h.
    ap (lane_of z) (lane_through x y i h) ∙ sym (lane_through y z (lane_of x i) ((four_lanes x).each (i - 1) (omega arith))) in
    let one = at 1 (lit≤ tt, lit≤ tt) in
    let two = at 2 (lit≤ tt, lit≤ tt) in
    let three = at 3 (lit≤ tt, lit≤ tt) in
    let four = at 4 (lit≤ tt, lit≤ tt) in
    cc (through_is (through x y) z, through_is x (through y z))
