-- The next doubleword begins at 8 times the number of this one and 8 more (`next_at`), modulo the number of addresses.
use native.Mathlib.Omega.{arith}
use Rattle.calls.proofs.SplitLaws.{next_at}
use Rattle.parts.proofs.next_doubleword.Goals as goal

pub returns : goal.returns
returns c = omega (arith, next_at c.args.address)
