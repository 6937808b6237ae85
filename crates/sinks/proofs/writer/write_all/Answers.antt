-- One turn takes one more step of the list.
-- Assumes nothing but what the trait of sinks says.
use Rattle.std.proofs.Common.{arith, ◌∙◌}
use Rattle.sinks.proofs.Adding.{extends_more}
use Rattle.sinks.proofs.Taking.{taken_more}
use Rattle.sinks.proofs.writer.write_all.Goals as goal

pub loop-taken-preserved : goal.loop-taken-preserved
loop-taken-preserved g c =
    let m = g.S.Sink in
    let start = c.args.sink.now in
    let before = c.loop-taken.sink in
    let after = c.step.new.self in
    let inv = c.loop-taken.invariant in
    let told = c.in_default.ensures in record {
      items = taken_more (m.steps start) (m.steps before) (m.steps after) c.args.list.now c.loop-taken.taken c.index-list-taken.result c.loop-taken-test.true c.index-list-taken.is inv.items told.items;
      no_more_room = omega (arith, told.room.0, inv.no_more_room);
      room_lost = omega (arith, told.room.1, inv.room_lost);
      row = extends_more (m.used start) (m.used before) (m.used after) (m.row start) (m.row before) (m.row after) inv.row told.row;
      lender = told.lender ∙ inv.lender;
    }
