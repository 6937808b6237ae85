-- The code is written behind the others, which leaves them and all bytes past it as they were; so the row is read as
-- one step more.
-- Assumes nothing but what the trait of spellings says.
use Rattle.std.proofs.Common.{ℕ, List, ◌+◌, ◌-◌, ◌/◌, ◌<◌, ◌≤◌, min, length, ap, ◌∙◌, arith, rules}
use borrow.Rule.Slice.PartMut.{put_mid}
use Rattle.sinks.specs.LentBytes.{most, free_after}
use Rattle.sinks.proofs.Adding.{Added, added, widest_free}
use Rattle.sinks.proofs.written.WrittenSink.step.Goals as goal
use Rattle.sinks.proofs.written.WrittenSink.step.Goals.{After-copy_from_slice}

-- the row as the code was written on it
abbrev row_after : (g : _) → After-copy_from_slice g → List ℕ
row_after g c =
    let sink = c.args.self.now in
    put_mid sink.len (sink.len + length c.text-code.result.now - sink.len) sink.bytes.now c.copy_from_slice.new.self

fits : (g : _) (c : After-copy_from_slice g) → c.args.self.now.len + length c.text-code.result.now ≤ min (length c.args.self.now.bytes.now) most
fits g c =
    let sink = c.args.self.now in
    let m = g.S.Spelling in
    let some : 0 < free_after sink.len sink.bytes.now / m.WIDTH = omega (arith, c.room.ensures.answer, c.if-room-eq0.false) in
    let free = widest_free (free_after sink.len sink.bytes.now) m.WIDTH g.met.S.Spelling.wide some in
    let is = ap length (c.text-code.ensures ∙ c.spell-line.ensures) in
    omega (arith, is, free, g.met.S.Spelling.short c.args.step, sink.inside)

more : (g : _) (c : After-copy_from_slice g) → Added g.S.Spelling.code g.S.Spelling.reads g.met.S.Spelling.read_back c.args.self.now.bytes.now (row_after g c) c.args.self.now.len (c.args.self.now.len + length c.text-code.result.now) c.args.step
more g c =
    let m = g.S.Spelling in
    let sink = c.args.self.now in
    let code = c.text-code.result.now in
    let put = c.copy_from_slice.ensures.after in
    added m.code m.reads g.met.S.Spelling.read_back sink.bytes.now c.copy_from_slice.new.self sink.len (sink.len + length code - sink.len) (sink.len + length code) c.args.step
    (put ∙ c.text-code.ensures ∙ c.spell-line.ensures) (omega (arith, ap length put)) (omega arith) (omega (arith, fits g c)) sink.clean

pub invariant_of-self : goal.invariant_of-self
invariant_of-self g c =
    let a = (goal.at.invariant_of-self g c).After-copy_from_slice in
    let clean = (more g a).clean in
    record { inside = omega (arith, fits g a, (more g a).row.count); clean = search rules }

pub returns-clause-items : goal.returns-clause-items
returns-clause-items g c =
    let items = (more g (goal.at.returns-clause-items g c).After-copy_from_slice).items in search rules

pub returns-clause-row : goal.returns-clause-row
returns-clause-row g c = (more g (goal.at.returns-clause-row g c).After-copy_from_slice).row
