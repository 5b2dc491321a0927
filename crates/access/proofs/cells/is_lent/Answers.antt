-- A cell is within the lent bytes if its number is below the number of whole cells in them.
use borrow.Author.Tests.{lt-ltb, le-ltb, leb-true, leb-false}
use Prim.Native.Nat.{◌+◌, ◌*◌, ◌/◌}
use native.Mathlib.Omega.{arith}
use lib.Dec.{leb}
use Rattle.basics.proofs.RangeLaws.{by_cases}
use Rattle.access.proofs.cells.is_lent.Goals as goal

pub returns : goal.returns
returns c =
    let k = c.args.k in
    let bytes = c.args.bytes in
    by_cases (leb (9 * k + 9) bytes)
    (λ t. rw t (lt-ltb k (bytes / 9) (omega (arith, leb-true (9 * k + 9) bytes t))))
    (λ t. rw t (le-ltb k (bytes / 9) (omega (arith, leb-false (9 * k + 9) bytes t))))
