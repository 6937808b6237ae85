use Rattle.std.proofs.Common.{arith, length-take-le}
use Rattle.judge.proofs.Grounds.{copied_front}
use Rattle.judge.proofs.judge.show.Goals as goal

pub copy_from_slice-requires : goal.copy_from_slice-requires
copy_from_slice-requires c = omega (arith, length-take-le 256 c.args.row.now c.requires.row)

pub returns : goal.returns
returns c = record { row = copied_front c.args.sides.now c.args.row.now c.copy_from_slice.new.self c.told-sides c.copy_from_slice.ensures.after }
