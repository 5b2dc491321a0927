-- The factor is a power of two (`one_shl`), and the cell is below those of the bank (`cell_in_bank_below`), which fit in 32 bits (`cells_most`).
use Prim.Native.Nat.{◌+◌, ◌*◌, ◌^◌, ◌<◌}
use mathlib.Core.Bool.{true}
use mathlib.Core.Path.{◌≡◌}
use native.Mathlib.Omega.{arith}
use Rattle.basics.proofs.Shifts.{one_shl}
use Rattle.banks.specs.Map.{most_cells}
use Rattle.banks.specs.declared.Bank.{Bank}
use Rattle.banks.specs.declared.Row.{Row}
use Rattle.banks.specs.declared.Column.{Column}
use Rattle.banks.specs.Setup.{Bounded}
use Rattle.banks.proofs.FieldLaws.{cells_most}
use Rattle.way_back.specs.WayBack.{in_range}
use Rattle.way_back.proofs.WayBackLaws.{cell_in_bank_below}
use Rattle.way_back.proofs.cell_in_bank_at.Goals as goal

small : (b : Bank) (row : Row) (column : Column) → Bounded b → in_range b row column ≡ true → row.0 * 2 ^ b.column_bits + column.0 < most_cells
small b row column h t = omega (arith, cell_in_bank_below b row column t, cells_most b h)

pub overflow_mul-result : goal.overflow_mul-result
overflow_mul-result c =
    let a = c.args in
    rw (one_shl 32 a.b.column_bits (omega arith)) (omega (arith, small a.b a.row a.column c.requires.0 c.requires.1))

pub overflow_add-result : goal.overflow_add-result
overflow_add-result c =
    let a = c.args in
    rw (one_shl 32 a.b.column_bits (omega arith)) (omega (arith, small a.b a.row a.column c.requires.0 c.requires.1))

pub returns : goal.returns
returns c =
    let a = c.args in
    let e = one_shl 32 a.b.column_bits (omega arith) in
    record { value = rw e; bound = rw e (cell_in_bank_below a.b a.row a.column c.requires.1) }
