-- Each number is a piece of the line, which has room.
use Rattle.std.proofs.Common.{◌≡◌, ℕ, ◌+◌, ◌<◌, ◌≤◌, List, ◌++◌, ◌∷◌, decimal, get_or, drop, drop-cons, add-one, length, sym, ap, ◌∙◌, arith}
use Rattle.std.proofs.lemmas.List.{length-append}
use Rattle.line.specs.Lines.{text_of}
use Rattle.line.proofs.Pieces.{piece_fits}
use Rattle.dumplines.specs.Shown.{ending}
use Rattle.dumplines.proofs.ended.Goals as goal
use Rattle.dumplines.proofs.ended.Goals.{After-field}

-- the next of the numbers that are still to come
next_number : (ns : List ℕ) (i : ℕ) → i < length ns → (32 ∷ decimal (get_or ns i 0)) ++ ending (drop (i + 1) ns) ≡ ending (drop i ns)
next_number ns i h = rw (add-one i) (ap ending (sym (drop-cons ns i 0 h)))

small : (c : After-field) → length (text_of c.args.line ++ ending c.args.numbers.now) ≤ 64
small c = omega (arith, c.requires, length-append (text_of c.args.line) (ending c.args.numbers.now))

pub unwrap-requires : goal.unwrap-requires
unwrap-requires c =
    let text = text_of c.loop-number.line in
    let ns = c.args.numbers.now in
    let i = c.loop-number.number-index in
    let joined = ap (λ rest. text ++ rest) (next_number ns i c.loop-number-test.true) ∙ c.loop-number.invariant in
    piece_fits 64 (small c) text (32 ∷ decimal (get_or ns i 0)) (ending (drop (i + 1) ns)) joined (text_of c.field.new.self) c.field.result c.field.ensures
