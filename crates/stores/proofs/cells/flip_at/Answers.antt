-- The part from 9 k on is cell k (`lent_fits`), in which `invert` inverts the bit; the bytes after it stay as they were (`Post-is`).
use native.Mathlib.Omega.{arith}
use mathlib.Core.Path.{◌≡◌, ap, ap₂, ◌∙◌}
use mathlib.Core.List.{List, ◌++◌}
use Prim.Native.Nat.{ℕ, ◌+◌, ◌-◌, ◌*◌}
use lib.ListN.{take, drop}
use borrow.Rule.Slice.PartMut.{Post-is}
use Rattle.ecc.specs.CheckCode.{flip_bit}
use Rattle.ecc.specs.Lending.{cell_at, put_cell}
use Rattle.stores.proofs.cells.flip_at.Goals as goal

pub returns : goal.returns
unfolding put_cell cell_at
returns c =
    let args = c.args in
    let a = 9 * args.k in
    let cells = args.cells.now in
    let nine : a + 9 - a ≡ 9 = omega arith in
    ap₂ (λ (x y : List ℕ). take a cells ++ (x ++ y))
    (c.invert.ensures ∙ ap (λ (n : ℕ). flip_bit (take n (drop a cells)) args.b) nine) (Post-is a (a + 9) cells (omega arith))
