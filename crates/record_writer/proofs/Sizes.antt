-- How many bytes a record has at most.
-- Assumes nothing.
use Rattle.std.proofs.Common.{◌≤◌, length, arith}
use Rattle.records.specs.declared.record.Record.{Record}
use Rattle.records.specs.declared.record.Record.TheVariants.{Axiom, Tensor, Par, Cut}
use Rattle.records.specs.Format.{bytes_of}

-- no record has more than 16 bytes
pub most_bytes : (r : Record) → length (bytes_of r) ≤ 16
unfolding bytes_of
most_bytes (Axiom link positive negative atom delay) = omega arith
most_bytes (Tensor link left right conclusion) = omega arith
most_bytes (Par link left right conclusion) = omega arith
most_bytes (Cut link left right) = omega arith
