-- `with_bytes` merges the first bytes of a value into a doubleword: lanes_merge of LaneLaws, with the lanes that `lanes` gives.
use Prim.Native.Nat.{◌%◌}
use native.Mathlib.Omega.{arith}
use Rattle.merging.proofs.LaneLaws.{lanes_merge}
use Rattle.merging.proofs.with_bytes.Goals as goal

pub returns : goal.returns
returns c =
    let lanes = c.lanes in
    let a = c.args in
    rw lanes.ensures (lanes_merge a.doubleword a.value a.address (a.count % 8) (omega arith))
