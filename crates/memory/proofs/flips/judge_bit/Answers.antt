-- The two cases of `by_bit`: the bit is above 71 (`lt-ltb`), or it is not (`le-ltb`).
use borrow.Author.Tests.{lt-ltb, le-ltb}
use Rattle.calls.specs.Spans.{by_bit}
use Rattle.memory.proofs.flips.judge_bit.Goals as goal

pub returns-then-bit-gt71 : goal.returns-then-bit-gt71
unfolding by_bit
returns-then-bit-gt71 c = simp (lt-ltb 71 _ c.if-bit-gt71.true)

pub returns : goal.returns
unfolding by_bit
returns c = simp (le-ltb 71 _ c.if-bit-gt71.false)
