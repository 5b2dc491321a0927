-- Within a megabyte the route is the same; beyond it another is found, at the next doubleword.
use borrow.Author.Tests.{lt-ltb, le-ltb}
use Prim.Native.Nat.{◌-◌, ◌/◌, ◌%◌, ◌^◌}
use native.Mathlib.Omega.{arith}
use Rattle.parts.proofs.route_after.Goals as goal

pub returns-then-address : goal.returns-then-address
returns-then-address c =
    rw (lt-ltb (c.args.address / 8 % 2 ^ 17) (2 ^ 17 - 1) c.if-address.true)

pub returns : goal.returns
returns c =
    rw (le-ltb (c.args.address / 8 % 2 ^ 17) (2 ^ 17 - 1) (omega (arith, c.if-address.false)), ← c.next_doubleword-next.ensures) c.route.ensures
