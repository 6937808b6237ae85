-- Routes of four lanes: what a record of a route means, which lanes make a route, and the route through one and
-- then another. What a composed route does is stated lane by lane at `compose`; `rank` only numbers it.
-- Assumes nothing.
use Rattle.std.specs.Prelude.{◌≡◌, ℕ, ◌+◌, ◌-◌, ◌*◌, ◌%◌, ◌<◌, ◌≤◌, cond, List, [], ◌∷◌, length, ◌≢◌, nat_lt, slice_index, slice_index_or}
use Rattle.labels.specs.declared.route.Route.{Route}

-- lane 1 goes to a, lane 2 to b, lane 3 to c and lane 4 to d
abbrev pub to : ℕ → ℕ → ℕ → ℕ → List ℕ
to a b c d = a ∷ b ∷ c ∷ d ∷ []

-- the 24 routes, in the order of a dictionary
unfoldable pub routes : List (List ℕ)
routes =
    to 1 2 3 4 ∷ to 1 2 4 3 ∷ to 1 3 2 4 ∷ to 1 3 4 2 ∷ to 1 4 2 3 ∷ to 1 4 3 2
    ∷ to 2 1 3 4 ∷ to 2 1 4 3 ∷ to 2 3 1 4 ∷ to 2 3 4 1 ∷ to 2 4 1 3 ∷ to 2 4 3 1
    ∷ to 3 1 2 4 ∷ to 3 1 4 2 ∷ to 3 2 1 4 ∷ to 3 2 4 1 ∷ to 3 4 1 2 ∷ to 3 4 2 1
    ∷ to 4 1 2 3 ∷ to 4 1 3 2 ∷ to 4 2 1 3 ∷ to 4 2 3 1 ∷ to 4 3 1 2 ∷ to 4 3 2 1
    ∷ []

-- where lanes 1 to 4 go: a code means one of the 24 by its remainder
unfoldable pub lanes_of : Route → List ℕ
lanes_of route = slice_index_or routes (route.code % 24) []

-- where lane i goes
abbrev pub lane_of : Route → ℕ → ℕ
lane_of route i = slice_index (lanes_of route) (i - 1)

-- there are four lanes
abbrev pub IsLane : ℕ → Type 0
IsLane i = (1 ≤ i) × (i ≤ 4)

-- four lanes, no two of them the same
pub record FourLanes (lanes : List ℕ) : Type 0 where
  pub four : length lanes ≡ 4
  pub each : (i : ℕ) → i < 4 → IsLane (slice_index lanes i)
  pub apart : (i j : ℕ) → i < j → j < 4 → slice_index lanes i ≢ slice_index lanes j

-- 1 where the one lane is below the other, else 0
abbrev pub below : ℕ → ℕ → ℕ
below i j = cond (nat_lt i j) 1 0

-- the place of four lanes among the 24, from 0: a smaller lane further on puts 6 rows before, or 2, or 1
unfoldable pub rank : ℕ → ℕ → ℕ → ℕ → ℕ
rank a b c d = 6 * (below b a + below c a + below d a) + 2 * (below c b + below d b) + below d c

-- each lane goes through first and then through second
unfoldable pub through : Route → Route → Route
through first second =
    let to-lane : ℕ → ℕ = λ i. lane_of second (lane_of first i) in
    record { code = rank (to-lane 1) (to-lane 2) (to-lane 3) (to-lane 4) }
