-- A megabyte number below 1024 keeps all its bits when it is shifted, so that the rows are those that `same_part` compares.
use Prim.Native.Nat.{◌*◌, ◌%◌, ◌^◌}
use mathlib.Core.Path.{◌≡◌}
use native.Mathlib.Omega.{arith}
use Rattle.alike.specs.CodeMegabyte.{same_part}
use Rattle.alike.proofs.is_same_part.Goals as goal

pub returns : goal.returns
unfolding same_part
returns c =
    let m = c.args.m in
    let s : m * 2 ^ 20 % 2 ^ 32 ≡ m * 2 ^ 20 = omega arith in
    simp (c.row-2.ensures, c.row.ensures, s)
