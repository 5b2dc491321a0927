-- The tests come in the order of `by_burst`: the address is not at a doubleword, or the bytes are not 32 (`ne_eqb`).
use Prim.Native.Nat.{◌%◌}
use borrow.Author.Tests.{ne_eqb}
use Rattle.calls.specs.Spans.{by_burst}
use Rattle.parts.proofs.judge_burst.Goals as goal

pub returns-then-address-ne0 : goal.returns-then-address-ne0
unfolding by_burst
returns-then-address-ne0 c = rw (ne_eqb (c.args.address % 8) 0 c.if-address-ne0.true)

pub returns-then-count-ne32 : goal.returns-then-count-ne32
unfolding by_burst
returns-then-count-ne32 c = rw (c.if-address-ne0.false, ne_eqb _ 32 c.if-count-ne32.true)

pub returns : goal.returns
unfolding by_burst
returns c = rw (c.if-address-ne0.false, c.if-count-ne32.false)
