-- A route is made of just the rows of four different lanes: such a row stands at its rank, and no other row stands
-- anywhere in the table.
-- Assumes nothing.
use Rattle.std.proofs.Common.{◌≡◌, ℕ, get_or, Some, sym, ap, ◌∙◌, subst, arith}
use Rattle.std.proofs.lemmas.Slice.Eq.{slice_eq-Decides}
use Rattle.std.proofs.lemmas.Bool.{both_ways}
use Rattle.labels.specs.Routes.{lanes_of, FourLanes}
use Rattle.labels.specs.RouteTable.{coded, four_lanes, rank_lt, code_of_lanes, lanes_of_code}
use Rattle.labels.proofs.route.Route.from_lanes.Goals as goal
use Rattle.labels.proofs.route.Route.from_lanes.Goals.{Else-eq}
use Rattle.std.proofs.lemmas.Bool.Decides.{Decides-eqb}

pub returns-then-eq : goal.returns-then-eq
returns-then-eq c =
    let small = rank_lt (get_or c.args.lanes 0 0) (get_or c.args.lanes 1 0) (get_or c.args.lanes 2 0) (get_or c.args.lanes 3 0) in
    record {
      answer = (sym c.lanes.ensures.value ∙ (slice_eq-Decides Decides-eqb _ _ _ c.eq.ensures).0 c.if-eq.true, omega arith);
      same = λ route e. ap (λ (n : ℕ). Some (record { code = n })) (c.rank.ensures ∙ code_of_lanes route c.args.lanes e);
    }

-- four different lanes would have been found
not_four : (c : Else-eq) → FourLanes c.args.lanes → ⊥
unfolding coded
not_four c four =
    let found : c.lanes.result ≡ c.args.lanes =
    c.lanes.ensures.value ∙ ap (λ (n : ℕ). lanes_of (record { code = n })) c.rank.ensures ∙ lanes_of_code c.args.lanes four in
    both_ways c.eq.result c.if-eq.false ((slice_eq-Decides Decides-eqb _ _ _ c.eq.ensures).1 found)

pub returns-else-eq : goal.returns-else-eq
returns-else-eq c = record { answer = not_four c; same = λ route e. absurd (not_four c (subst FourLanes e (four_lanes route))) }
