-- The loop's invariant: the search from i on ends where that from the start does (`length_past`). It ends at an LF (`length_lf`) or at the end of the
-- chunk (`length_end`).
use Rattle.std.proofs.Common.{arith, refl, ◌+◌}
use Rattle.line_ends.proofs.LineEndLaws.{length_lf, length_past, length_end}
use Rattle.line_ends.proofs.rest_end.Goals as goal

pub returns-then-chunk-i-eq10 : goal.returns-then-chunk-i-eq10
returns-then-chunk-i-eq10 c =
    omega (arith, length_lf c.args.chunk.now c.loop-i.i (omega arith) c.if-chunk-i-eq10.true)

pub loop-i-preserved : goal.loop-i-preserved
loop-i-preserved c =
    (omega arith, omega (arith, length_past c.args.chunk.now c.loop-i.i (c.loop-i.i + 1) refl (omega arith) c.if-chunk-i-eq10.false))

pub returns : goal.returns
returns c =
    omega (arith, length_end c.args.chunk.now c.loop-i.i (omega arith))
