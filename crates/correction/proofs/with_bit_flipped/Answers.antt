-- ECC-7: a data bit is inverted at its place in the number; above 63 there is no such byte among the eight.
use Prim.Native.Nat.{◌/◌}
use mathlib.Core.Path.{sym}
use native.Mathlib.Omega.{arith}
use lib.Seq.{set_out}
use Rattle.ecc.specs.CheckCode.{flip_bit}
use Rattle.ecc.proofs.DoublewordLaws.{number_length, number_flip}
use Rattle.correction.proofs.with_bit_flipped.Goals as goal

pub returns-then-b-gt63 : goal.returns-then-b-gt63
unfolding flip_bit
returns-then-b-gt63 c =
    sym (set_out _ (c.args.b / 8) _ (omega (arith, number_length c.args.doubleword)))

pub returns : goal.returns
returns c =
    number_flip c.args.doubleword c.args.b (omega arith)
