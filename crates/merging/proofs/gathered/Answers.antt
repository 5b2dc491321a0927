-- `gathered` makes one number of the bytes of a write. The loop's invariant: x is the number of the first i bytes, so that the next one goes above them
-- (begun_more of GatherLaws). Eight bytes are those of `number_at` (gathered_eight).
use mathlib.Core.Path.{◌≡◌}
use Prim.Native.Nat.{◌<◌}
use native.Mathlib.Omega.{arith}
use lib.ListN.{length, get_or}
use Rattle.merging.proofs.GatherLaws.{begun_more, begun_all, gathered_eight, gathered_none}
use Rattle.merging.proofs.gathered.Goals as goal

pub returns-then-bytes-eq8 : goal.returns-then-bytes-eq8
returns-then-bytes-eq8 c =
    gathered_eight c.args.bytes.now c.number_at.result c.if-bytes-eq8.true c.number_at.ensures

pub returns-then-bytes-gt8 : goal.returns-then-bytes-gt8
returns-then-bytes-gt8 c =
    gathered_none c.args.bytes.now c.if-bytes-gt8.true

pub loop-i-preserved : goal.loop-i-preserved
loop-i-preserved c =
    let bs = c.args.bytes.now in
    let i = c.loop-i.i in
    let byte : get_or bs i 0 < 256 = (c.type_inv.bytes i).fits in
    rw c.from.ensures (begun_more bs i c.loop-i.x (omega arith) (omega arith) byte c.loop-i.invariant)

pub returns : goal.returns
returns c =
    let bs = c.args.bytes.now in
    let all : c.loop-i.i ≡ length bs = omega arith in
    begun_all bs c.loop-i.x (omega arith) (rw all at c.loop-i.invariant)
