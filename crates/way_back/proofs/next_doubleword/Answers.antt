-- A quotient times n is at most the start (`div-mul-le_self`), so that the sums stay below 2^28; the test is the contract's (`lt-ltb`, `le-ltb`).
use native.Mathlib.Omega.{arith}
use native.Mathlib.Nat.{div-mul-le_self}
use borrow.Author.Tests.{lt-ltb, le-ltb}
use Rattle.way_back.proofs.next_doubleword.Goals as goal

pub overflow_mul-d : goal.overflow_mul-d
overflow_mul-d c = omega (arith, div-mul-le_self c.args.start c.args.n)

pub overflow_add-d : goal.overflow_add-d
overflow_add-d c = omega (arith, div-mul-le_self c.args.start c.args.n)

pub returns-then-d-start : goal.returns-then-d-start
returns-then-d-start c =
    record { value = rw (lt-ltb _ _ c.if-d-start.true); bound = omega (arith, div-mul-le_self c.args.start c.args.n) }

pub returns-else-d-start : goal.returns-else-d-start
returns-else-d-start c =
    record { value = rw (le-ltb _ _ c.if-d-start.false); bound = omega (arith, div-mul-le_self c.args.start c.args.n) }
