-- Each lane of 2 1 3 4 is sent on by 1 3 2 4.
-- Assumes nothing.
use Rattle.std.proofs.Common.{Some, ap, ◌∙◌}
use Rattle.labels.specs.Routes.{lanes_of}
use Rattle.labels.specs.RouteLaw.{lanes_through}
use Rattle.samples.proofs.label_uses.two_swaps.Goals as goal

pub returns : goal.returns
returns c =
    let first = c.in_ok-first.first in
    let second = c.in_ok-second.second in
    let f = c.in_ok-first.ensures.answer.0 in
    let s = c.in_ok-second.ensures.answer.0 in
    ap Some (c.lanes.ensures.value ∙ ap lanes_of c.compose.ensures.value ∙ lanes_through first second ∙ simp (f, s))
