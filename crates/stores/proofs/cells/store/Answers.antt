-- The part from 9 k on has nine bytes (`lent_fits`), which `store_nine` replaces; what comes after them is that of `put_cell` (`Post-is`).
use mathlib.Core.Path.{◌≡◌, ap₂, ◌∙◌}
use mathlib.Core.List.{List, ◌++◌}
use Prim.Native.Nat.{ℕ, ◌+◌, ◌-◌, ◌*◌}
use native.Mathlib.Omega.{arith}
use borrow.Author.Tests.{eq-eqb}
use lib.ListN.{length, take, drop, length-drop}
use lib.Seq.{length-take-le}
use borrow.Rule.Slice.PartMut.{mid_of, Post-is}
use Rattle.ecc.specs.Lending.{put_cell}
use Rattle.ecc.proofs.CellLaws.{lent_fits}
use Rattle.stores.proofs.cells.store.Goals as goal

pub returns : goal.returns
unfolding put_cell
returns c =
    let args = c.args in
    let a = 9 * args.k in
    let cells = args.cells.now in
    let nine : length (mid_of a (a + 9 - a) cells) ≡ 9 = length-take-le (a + 9 - a) (drop a cells) (omega (arith, length-drop a cells, lent_fits cells args.k c.requires)) ∙ omega arith in
    ap₂ (λ (x y : List ℕ). take a cells ++ (x ++ y)) (rw (eq-eqb _ 9 nine, c.encode.ensures) at c.store_nine.ensures) (Post-is a (a + 9) cells (omega arith))
