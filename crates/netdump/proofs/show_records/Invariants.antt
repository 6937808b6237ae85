-- Each record takes the reader on, so that there are no more records than bytes.
use Rattle.std.proofs.Common.{◌-◌, ◌≤◌, length}
use Rattle.netdump.proofs.show_records.Given as goal

abbrev pub invariant-records : goal.invariant-records
invariant-records g l = l.count ≤ l.reader.at

abbrev pub decreases-records : goal.decreases-records
decreases-records g l = length l.reader.file.now - l.reader.at
