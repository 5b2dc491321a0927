-- The loop's invariant: the search from `at` on ends where that from the start does. Eight bytes hold an LF (`within_eight`) or are passed over
-- (`past_eight`); fewer are left to `rest_end`, and past the end there is none (`length_end`).
use Rattle.std.proofs.Common.{arith, ◌+◌}
use Rattle.line_ends.proofs.LineEndLaws.{within_eight, past_eight, length_end}
use Rattle.line_ends.proofs.line_end.Goals as goal

pub returns-then-chunk-from : goal.returns-then-chunk-from
returns-then-chunk-from c =
    let a = c.args in omega (arith, length_end a.chunk.now a.from (omega arith))

pub returns-then-n-lt8 : goal.returns-then-n-lt8
returns-then-n-lt8 c =
    let l = c.args.chunk.now in
    let n = c.before_lf-n in
    let e = within_eight l c.loop-at.at n.result (omega arith) n.ensures c.if-n-lt8.true in
    omega arith

pub loop-at-preserved : goal.loop-at-preserved
loop-at-preserved c =
    let l = c.args.chunk.now in
    let n = c.before_lf-n in
    let e = past_eight l c.loop-at.at n.result (omega arith) n.ensures c.if-n-lt8.false in
    (omega arith, omega arith)

pub returns-else-chunk-from : goal.returns-else-chunk-from
returns-else-chunk-from c =
    omega (arith, length_end c.args.chunk.now c.loop-at.at (omega arith))

pub returns-else-n-lt8 : goal.returns-else-n-lt8
returns-else-n-lt8 c =
    let l = c.args.chunk.now in
    let n = c.before_lf-n in
    let e = past_eight l c.loop-at.at n.result (omega arith) n.ensures c.if-n-lt8.false in
    omega (arith, length_end l (c.loop-at.at + 8) (omega arith))
