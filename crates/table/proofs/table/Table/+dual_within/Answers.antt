use Rattle.std.proofs.Common.{true, arith}
use mathlib.Core.Bool.{Bool-set}
use mathlib.Core.HLevel.{⊥_prop}
use mathlib.Core.Logic.{∥∥₁_elim}
use Rattle.links.specs.Formulas.{dual_of}
use Rattle.table.proofs.Meetings.{stands_read, made_at, told_at}
use Rattle.table.proofs.table.Table.+dual_within.Goals as goal

pub returns-in_default-clause-all : goal.returns-in_default-clause-all
returns-in_default-clause-all t c = λ F rf rg h. absurd (c.in_default.ensures.answer (stands_read _ _ F rf))

pub returns-in_default-head-clause-all : goal.returns-in_default-head-clause-all
returns-in_default-head-clause-all t c = λ F rf rg h. absurd (c.in_default-head.ensures.answer (stands_read _ _ (dual_of F) rg))

pub returns-in-Clash-clause-all : goal.returns-in-Clash-clause-all
returns-in-Clash-clause-all t c =
    λ F rf rg h. absurd (∥∥₁_elim c.args.self.now.facts ⊥_prop (λ f. told_at _ f c.args.a c.args.b F rf rg _ _ c.in-Some.ensures.answer c.in-Some-head.ensures.answer _ c.in-Clash.ensures))

pub returns-in-Match-clause-only : goal.returns-in-Match-clause-only
returns-in-Match-clause-only t c = λ e. made_at _ _ _ _ _ c.in-Some.ensures.answer c.in-Some-head.ensures.answer _ c.in-Match.ensures

pub returns-then-dual_within-clause-only : goal.returns-then-dual_within-clause-only
returns-then-dual_within-clause-only t c =
    λ e. made_at _ _ _ _ _ c.in-Some.ensures.answer c.in-Some-head.ensures.answer _ c.in-Parts.ensures (c.dual_within.ensures.only c.if-dual_within.true) (c.dual_within-then-dual_within.ensures.only e)

pub returns-then-dual_within-clause-all : goal.returns-then-dual_within-clause-all
returns-then-dual_within-clause-all t c =
    λ F rf rg h. ∥∥₁_elim c.args.self.now.facts (Bool-set c.dual_within-then-dual_within.result true) (λ f.
    let p = told_at _ f c.args.a c.args.b F rf rg _ _ c.in-Some.ensures.answer c.in-Some-head.ensures.answer _ c.in-Parts.ensures in
    let lower = p.right_lower in
    c.dual_within-then-dual_within.ensures.all p.B p.at_r p.at_s (omega arith))

pub returns-else-dual_within-clause-all : goal.returns-else-dual_within-clause-all
returns-else-dual_within-clause-all t c =
    λ F rf rg h. ∥∥₁_elim c.args.self.now.facts (Bool-set c.dual_within.result true) (λ f.
    let p = told_at _ f c.args.a c.args.b F rf rg _ _ c.in-Some.ensures.answer c.in-Some-head.ensures.answer _ c.in-Parts.ensures in
    let lower = p.left_lower in
    c.dual_within.ensures.all p.A p.at_l p.at_m (omega arith))
