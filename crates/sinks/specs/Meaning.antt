-- What a sink over lent bytes means: the bytes that it has written, the steps that are read from them, and its room.
-- Assumes nothing.
use Rattle.std.specs.Prelude.{ℕ, ◌/◌, List, take}
use Rattle.sinks.specs.LentBytes.{free_after}
use Rattle.sinks.specs.declared.spelling.Spelling.{Ghosts}
use Rattle.sinks.specs.declared.step.Step.{Step}
use Rattle.sinks.specs.declared.written.Written.{Written}

abbrev pub bytes_on : {S : Type 0} {spelling : Ghosts S} → Written S spelling → List ℕ
bytes_on sink = take sink.len sink.bytes.now

abbrev pub steps_on : {S : Type 0} {spelling : Ghosts S} → Written S spelling → List Step
steps_on {spelling = spelling} sink = spelling.reads (bytes_on sink)

-- how often the longest code has place behind them
abbrev pub room_on : {S : Type 0} {spelling : Ghosts S} → Written S spelling → ℕ
room_on {spelling = spelling} sink = free_after sink.len sink.bytes.now / spelling.WIDTH
