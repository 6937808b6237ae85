-- The four bytes that were named are the header, and what `rest` begins with is the body.
use Rattle.std.proofs.Common.{ℕ, ◌-◌, ◌≤◌, length, take, drop, subst, arith, ltb-false, ltb-true}
use Rattle.std.proofs.lemmas.List.{take_rest}
use Rattle.records.specs.Fronts.{ReadsBody}
use Rattle.records.proofs.Fronts.{front_from_body}
use Rattle.records.proofs.reader.read.Goals as goal

pub returns : goal.returns
returns c =
    let bytes = c.args.bytes.now in
    let len = c.number-len.result in
    let kind = c.number.result in
    let headed : 4 ≤ length bytes = omega (arith, ltb-true, ltb-false) in
    let whole : len ≤ length bytes - 4 = omega (arith, ltb-true, ltb-false) in
    let body = take len (take (length bytes - 4) (drop 4 bytes)) in
    let P : ℕ → Type 0 = λ k. ReadsBody k body c.with_body.result in
    front_from_body bytes len kind c.number-len.ensures.bytes c.number.ensures.bytes c.number-len.ensures.value c.number.ensures.value headed whole body c.with_body.result (simp take_rest) (subst P c.in_ok-kind.ensures c.with_body.ensures)
