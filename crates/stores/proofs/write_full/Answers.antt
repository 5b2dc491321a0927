-- A lent cell is stored; without one, "no bank" is reported.
use mathlib.Core.Path.{ap}
use Rattle.calls.specs.State.{lent_state}
use Rattle.registers.specs.Record.{record_of}
use Rattle.stores.proofs.StoreLaws.{found_lent, write_stored, write_missed}
use Rattle.stores.proofs.write_full.Goals as goal

pub returns-in_default : goal.returns-in_default
returns-in_default c =
    write_missed (lent_state c.args.registers.now c.args.cells.now) c.args.k c.args.address c.args.doubleword (rw c.in_default.is at c.lent.ensures) _
    (ap record_of c.report.ensures)

pub store-requires : goal.store-requires
store-requires c =
    found_lent c.args.cells.now c.args.k c.in-Some.k (rw c.in-Some.is at c.lent.ensures)

pub returns : goal.returns
returns c =
    write_stored (lent_state c.args.registers.now c.args.cells.now) c.args.k c.in-Some.k c.args.address c.args.doubleword (rw c.in-Some.is at c.lent.ensures) _ c.store.ensures
