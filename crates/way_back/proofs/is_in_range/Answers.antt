-- The two shifted ones are the powers of two that `in_range` compares with, by `one_shl`.
use native.Mathlib.Omega.{arith}
use Rattle.basics.proofs.Shifts.{one_shl}
use Rattle.way_back.specs.WayBack.{in_range}
use Rattle.way_back.proofs.is_in_range.Goals as goal

pub returns : goal.returns
unfolding in_range
returns c =
    let b = c.args.b in rw (one_shl 32 b.row_bits (omega arith), one_shl 32 b.column_bits (omega arith))
