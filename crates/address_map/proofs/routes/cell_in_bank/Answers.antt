-- A mask of 17 + bits ones leaves the remainder by 2 ^ (17 + bits): `one_shl` for the mask, `and_mask` for the remainder.
use Rattle.std.proofs.Common.{◌+◌, ◌-◌, ◌*◌, ◌/◌, ◌%◌, ◌^◌, arith, pow_pos}
use lib.Bits.{and_mask, and_le_l}
use Rattle.basics.proofs.Shifts.{one_shl}
use Rattle.address_map.proofs.routes.cell_in_bank.Goals as goal

pub overflow_sub-result : goal.overflow_sub-result
overflow_sub-result c =
    let bits = c.bits_of in
    rw (one_shl 64 (17 + bits.result) (omega (arith, bits.ensures.bound))) (omega (arith, pow_pos (17 + bits.result)))

pub overflow_cast-result-3 : goal.overflow_cast-result-3
overflow_cast-result-3 c =
    record { fits = omega (arith, and_le_l (c.args.address / 8) (1 * 2 ^ (17 + c.bits_of.result) % 2 ^ 64 - 1)) }

pub returns : goal.returns
returns c =
    let bits = c.bits_of in
    rw (one_shl 64 (17 + bits.result) (omega (arith, bits.ensures.bound)), and_mask (c.args.address / 8) (17 + bits.result), bits.ensures.value)
