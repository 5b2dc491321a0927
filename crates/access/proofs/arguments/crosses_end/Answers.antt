-- The byte of an address and the room there make 8 (`room_ends`), so that a count above the room is one that `crosses`.
use Prim.Native.Nat.{◌+◌, ◌%◌}
use native.Mathlib.Omega.{arith}
use borrow.Author.Tests.{lt-ltb, le-ltb, ltb-true, ltb-false}
use lib.Dec.{ltb}
use Rattle.basics.proofs.RangeLaws.{by_cases}
use Rattle.calls.specs.Calls.{crosses}
use Rattle.calls.proofs.SplitLaws.{room_ends}
use Rattle.access.proofs.arguments.crosses_end.Goals as goal

pub returns : goal.returns
unfolding crosses
returns c =
    let a = c.args in
    let r = c.room_at.result in
    let e = c.room_at.ensures in
    let whole = room_ends a.address in
    by_cases (ltb r a.count) (λ t. let h = ltb-true r a.count t in rw (t, lt-ltb 8 (a.address % 8 + a.count) (omega arith)))
    (λ t. let h = ltb-false r a.count t in rw (t, le-ltb 8 (a.address % 8 + a.count) (omega arith)))
