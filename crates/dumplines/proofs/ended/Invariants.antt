-- The text so far and what is still to come make up the whole.
use Rattle.std.proofs.Common.{◌≡◌, ◌++◌, drop}
use Rattle.line.specs.Lines.{text_of}
use Rattle.dumplines.specs.Shown.{ending}
use Rattle.dumplines.proofs.ended.Given as goal

abbrev pub invariant-loop-number : goal.invariant-loop-number
invariant-loop-number l =
    text_of l.line ++ ending (drop l.number-index l.numbers) ≡ text_of l.fn.line ++ ending l.fn.numbers
