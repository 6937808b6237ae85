-- A record takes the reader on and stays within the file, so the loop ends and the count does not overflow.
use Rattle.std.proofs.Common.{◌<◌, ◌≤◌, length, Ok, ap, ◌∙◌, arith}
use Rattle.records.proofs.Walks.{advances}
use Rattle.netdump.proofs.show_records.Given as given
use Rattle.netdump.proofs.show_records.Goals as goal

-- the record that was shown took the reader on, within the file
moved : (g : given.Over) (c : goal.In_ok-write_all-in-Ok-Some g) → (c.records.reader.at < c.next.new.self.at) × (c.next.new.self.at ≤ length c.records.reader.file.now)
moved g c = advances c.records.reader.file.now c.records.reader.at c.next.result c.next.new.self.at c.in-Ok-Some.record c.next.ensures.answer (c.in-Ok-Some.is ∙ ap Ok c.in-Ok-Some.field-0-is)

pub overflow_add-count : goal.overflow_add-count
overflow_add-count g c = omega (arith, (moved g c).0, (moved g c).1)

pub records-smaller : goal.records-smaller
records-smaller g c = omega (arith, (moved g c).0, (moved g c).1, ap length c.next.ensures.same)

pub records-preserved : goal.records-preserved
records-preserved g c = omega (arith, (moved g c).0)
