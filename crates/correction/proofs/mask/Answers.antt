-- ECC-3: data bits are counted from the top of their byte and check bits from the low end; a one that is shifted within the byte is a power of two.
use mathlib.Core.Path.{sym, ◌∙◌}
use Prim.Native.Nat.{◌-◌, ◌%◌}
use native.Mathlib.Omega.{arith}
use Rattle.basics.proofs.Shifts.{one_shl}
use Rattle.ecc.proofs.FlipLaws.{mask_data, mask_check}
use Rattle.correction.proofs.mask.Goals as goal

pub returns-then-b-lt64 : goal.returns-then-b-lt64
returns-then-b-lt64 c =
    let b = c.args.b in one_shl 8 (7 - b % 8) (omega arith) ∙ sym (mask_data b (omega arith))

pub returns-else-b-lt64 : goal.returns-else-b-lt64
returns-else-b-lt64 c =
    let b = c.args.b in one_shl 8 (b - 64) (omega arith) ∙ sym (mask_check b (omega arith))
