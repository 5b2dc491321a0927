-- From byte 0 on it is the first number (`append-nil`); else the two shifted parts do not meet (`across_fits`) and have these bytes (`across_bytes`).
use Prim.Native.Nat.{◌%◌}
use native.Mathlib.Omega.{arith}
use mathlib.Core.Path.{◌≡◌, sym}
use mathlib.Core.List.{append-nil}
use Rattle.eight_bytes.specs.CodeNumber.{eight_across}
use Rattle.eight_bytes.proofs.AcrossLaws.{across_fits, across_bytes}
use Rattle.eight_bytes.proofs.number_across.Goals as goal

pub returns-then-bits-eq0 : goal.returns-then-bits-eq0
unfolding eight_across
returns-then-bits-eq0 c =
    let none : c.args.from % 8 ≡ 0 = omega (arith, c.if-bits-eq0.true) in
    rw none (sym (append-nil _))

pub overflow_add-result : goal.overflow_add-result
overflow_add-result c =
    let a = c.args in omega (arith, across_fits a.first a.second (a.from % 8) (omega arith) (omega arith))

pub returns : goal.returns
unfolding eight_across
returns c =
    let a = c.args in across_bytes a.first a.second (a.from % 8) (omega arith) (omega arith)
