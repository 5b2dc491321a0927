-- The leading zeros of 2 x + 1 tell the digits of x (`leading_double`), and there are at most 31 of them (`leading_top`).
use Rattle.std.proofs.Common.{◌≡◌, ◌+◌, ◌*◌, ◌%◌, ◌^◌, arith}
use lib.Count.{leading_top}
use Rattle.basics.proofs.Zeros.{leading_double}
use Rattle.address_map.proofs.sizes.digits.Goals as goal

pub overflow_sub-result : goal.overflow_sub-result
overflow_sub-result c =
    let x = c.args.x in omega (arith, (leading_top 32 (x * 2 % 2 ^ 32 + 1) (omega arith) (omega arith)).1)

pub returns : goal.returns
returns c =
    let x = c.args.x in
    let e : x * 2 % 2 ^ 32 + 1 ≡ 2 * (x % 2 ^ 31) + 1 = omega arith in
    rw e (leading_double (x % 2 ^ 31) (omega arith))
