-- Each exit is an answer that `Reads` allows, and from that the law follows.
use Rattle.std.proofs.Common.{◌≤◌, length, Some, None, Ok, Err, refl}
use Rattle.std.proofs.lemmas.Result.{err_from_is_err_and}
use Rattle.records.proofs.Fronts.{record_at, fault_at}
use Rattle.records.proofs.Walks.{reads_walks}
use Rattle.records.proofs.Unique.{reads_finds}
use Rattle.records.proofs.reader.Reader.next.Goals as goal

pub returns-then-at-file : goal.returns-then-at-file
returns-then-at-file c =
    let file = c.args.self.now.file.now in
    let at = c.args.self.now.at in
    let ended : length file ≤ at = c.if-at-file.true in
    record { answer = (ended, refl); same = refl; items = reads_walks file at (Ok None) at (ended, refl); law = reads_finds file at (Ok None) at (ended, refl) }

pub returns-in_err-record : goal.returns-in_err-record
returns-in_err-record c =
    let file = c.args.self.now.file.now in
    let at = c.args.self.now.at in
    let p = err_from_is_err_and c.from_residual.result c.from_residual.ensures.1 in
    let h = fault_at file at c.in_err-record.field-0.0 c.if-at-file.false c.in_err-record.ensures in
    rw (p.1, p.2) (record { answer = h; same = refl; items = reads_walks file at (Err c.in_err-record.field-0.0) at h; law = reads_finds file at (Err c.in_err-record.field-0.0) at h })

pub returns : goal.returns
returns c =
    let file = c.args.self.now.file.now in
    let at = c.args.self.now.at in
    let r = c.in_ok-record.record in
    let h = record_at file at r c.size.result c.size.ensures c.in_ok-record.ensures in
    record { answer = h; same = refl; items = reads_walks file at (Ok (Some r)) _ h; law = reads_finds file at (Ok (Some r)) _ h }
