use Rattle.std.proofs.Common.{◌≡◌, ℕ, subst, arith, rules}
use Rattle.refusals.specs.declared.refusal.Refusal.TheVariants.{TooShort}
use Rattle.refusals.proofs.Refusing.{none_on, none_other}
use Rattle.table.proofs.Listing.{ListedBelow, one_listed, not_listed, all_listed}
use Rattle.table.proofs.table.Table.conclusions.Goals as goal
use Rattle.table.proofs.table.Table.conclusions.Goals.{then-is_conclusion, else-is_conclusion}

pub loop-o-preserved : goal.loop-o-preserved
loop-o-preserved c =
    let ls = c.args.self.now.slots.at in
    let facts = c.args.self.now.facts in
    elim c.if-is_conclusion.branch [
      | then-is_conclusion w ↦ rw (w.row-is, w.count-is) (one_listed ls facts c.args.row.now c.loop-o.row c.loop-o.o c.loop-o.count (omega (arith, c.loop-o.invariant.few)) c.loop-o.invariant (c.is_conclusion.ensures.value.0 w.if-is_conclusion.true))
      | else-is_conclusion w ↦ rw (w.row-is, w.count-is) (not_listed ls facts c.args.row.now c.loop-o.row c.loop-o.o c.loop-o.count c.loop-o.invariant (search rules))
    ]

pub returns : goal.returns
returns c =
    let end : c.loop-o.o ≡ 513 = omega arith in
    let b = subst (λ (o : ℕ). ListedBelow c.args.self.now.slots.at c.args.row.now c.loop-o.row o c.loop-o.count) end c.loop-o.invariant in
    record { row = (none_on TooShort (λ h. omega arith) none_other, all_listed c.args.self.now.slots.at c.args.self.now.facts c.args.row.now c.loop-o.row c.loop-o.count (omega arith) b) }
