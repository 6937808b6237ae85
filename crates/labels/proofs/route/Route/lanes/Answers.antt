-- The code's table is the table of `specs/`, and each of its rows has four different lanes.
-- Assumes nothing.
use Rattle.std.proofs.Common.{refl}
use Rattle.labels.specs.Routes.{routes, lanes_of}
use Rattle.labels.specs.RouteTable.{four_lanes}
use Rattle.labels.proofs.route.Route.lanes.Goals as goal

pub returns : goal.returns
unfolding lanes_of routes
returns c = record { value = refl; law = four_lanes c.args.self }
