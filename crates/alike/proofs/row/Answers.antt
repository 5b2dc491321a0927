-- A mask of as many ones as there are row and column bits leaves the cell in the bank: `one_shl` for the mask, `and_mask` for the remainder.
use Prim.Native.Nat.{◌+◌, ◌/◌}
use native.Mathlib.Omega.{arith}
use lib.Bits.{and_mask}
use lib.Pow.{pow_pos}
use Rattle.basics.proofs.Shifts.{one_shl}
use Rattle.banks.specs.Map.{cells, cell_in_bank, row_of}
use Rattle.alike.proofs.row.Goals as goal

pub overflow_sub-result : goal.overflow_sub-result
overflow_sub-result c =
    let b = c.args.b in omega (arith, one_shl 32 (b.row_bits + b.column_bits) (omega arith), pow_pos (b.row_bits + b.column_bits))

pub returns : goal.returns
unfolding row_of cell_in_bank cells
returns c =
    let a = c.args in
    let k = a.b.row_bits + a.b.column_bits in
    rw (one_shl 32 k (omega arith), and_mask (a.address / 8) k)
