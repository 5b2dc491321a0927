-- `copy_out` fills the buffer where the read stays in its doubleword: its test is that of `crosses`, with the byte of the address on the other side.
use Prim.Native.Nat.{◌+◌, ◌%◌, ◌≤◌}
use native.Mathlib.Omega.{arith}
use lib.ListN.{length}
use borrow.Author.Tests.{lt-ltb}
use Rattle.calls.specs.Calls.{crosses}
use Rattle.calls.proofs.SplitLaws.{fits_inside}
use Rattle.byte_lanes.proofs.StoreLaws.{shifted_down}
use mathlib.Core.Path.{◌∙◌}
use Rattle.byte_lanes.proofs.out.copy_out.Goals as goal

pub returns-then-address-buffer : goal.returns-then-address-buffer
unfolding crosses
returns-then-address-buffer c =
    let a = c.args in
    rw (lt-ltb 8 (a.address % 8 + length a.buffer.now) (omega (arith, c.if-address-buffer.true)))

pub returns : goal.returns
returns c =
    let a = c.args in
    let n = length a.buffer.now in
    let inside : a.address % 8 + n ≤ 8 = omega (arith, c.if-address-buffer.false) in
    rw (fits_inside a.address n inside) (c.copy_lowest.ensures ∙ shifted_down a.doubleword (a.address % 8) n inside)
