-- After some turns the sink has taken that many steps, lost at most as much of its room, and changed nothing else.
-- Assumes nothing.
use Rattle.std.proofs.Common.{◌≡◌, ◌+◌, ◌≤◌, ◌++◌, take}
use Rattle.sinks.specs.LentBytes.{Extends}
use Rattle.sinks.proofs.writer.write_all.Given as goal

abbrev pub invariant-loop-taken : goal.invariant-loop-taken
invariant-loop-taken g l =
    let s = g.S.Sink in record {
      items : s.steps l.sink ≡ s.steps l.initial.sink ++ take l.taken l.list;
      no_more_room : s.room l.sink ≤ s.room l.initial.sink;
      room_lost : s.room l.initial.sink ≤ s.room l.sink + l.taken;
      row : Extends (s.used l.initial.sink) (s.row l.initial.sink) (s.used l.sink) (s.row l.sink);
      lender : s.lender l.sink ≡ s.lender l.initial.sink;
    }
