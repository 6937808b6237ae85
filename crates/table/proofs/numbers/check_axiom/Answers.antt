use Rattle.std.proofs.Common.{rules}
use Rattle.table.proofs.Occurrences.{axiom_passed}
use Rattle.table.proofs.numbers.check_axiom.Goals as goal

pub returns : goal.returns
returns c = record { answer = axiom_passed c.args.n c.args.positive c.args.negative c.args.atom c.in_ok-check_occurrences.ensures.answer (search rules) }
