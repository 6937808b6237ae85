-- The composed route is `through` of the two, and so it sends each lane through both.
-- Assumes nothing.
use Rattle.std.proofs.Common.{◌≡◌, ap, ◌∙◌}
use Rattle.labels.specs.Routes.{lane_of, through}
use Rattle.labels.specs.declared.route.Route.{Route}
use Rattle.labels.specs.RouteTable.{coded}
use Rattle.labels.specs.RouteLaw.{through_is, lane_through}
use Rattle.labels.proofs.route.RouteLabel.compose.Goals as goal
use Rattle.labels.proofs.route.RouteLabel.compose.Goals.{After-rank}

made : (c : After-rank) → coded c.rank.result ≡ through c.args.self c.args.next
made c = cc (through_is c.args.self c.args.next)

pub returns : goal.returns
unfolding coded
returns c = record { value = made c; lanes = λ i h. ap (λ (r : Route). lane_of r i) (made c) ∙ lane_through c.args.self c.args.next i h }
