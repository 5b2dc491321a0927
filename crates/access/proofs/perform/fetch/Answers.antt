-- A clean cell is as it is stored and is not reported; without a cell, and by the syndrome, the laws of `FetchLaws`.
use mathlib.Core.Path.{◌≡◌, ap}
use lib.ListN.{get_or}
use Rattle.std.proofs.Common.{bit_xor}
use Rattle.ecc.specs.CheckCode.{syndrome_of, reading_of}
use Rattle.ecc.specs.declared.Reading.{Reading}
use Rattle.registers.specs.declared.Registers.{Registers}
use Rattle.ecc.specs.Columns.{columns}
use Rattle.registers.specs.Record.{record_of}
use Rattle.calls.specs.State.{lent_state}
use Rattle.access.proofs.FetchLaws.{fetched_none, fetched_clean, fetched_by}
use Rattle.access.proofs.perform.fetch.Goals as goal

pub returns-in_default : goal.returns-in_default
returns-in_default c =
    fetched_none (lent_state c.args.registers.now c.args.cells.now) c.args.k c.args.address c.in_default.ensures _ (ap record_of c.report.ensures)

pub returns-then-syndrome-eq0 : goal.returns-then-syndrome-eq0
unfolding syndrome_of
returns-then-syndrome-eq0 c =
    let found = c.in-Some.ensures in
    rw found.1
    (fetched_clean (lent_state c.args.registers.now c.args.cells.now) found.0 c.args.address found.2 _ (rw found.3 at c.doubleword-stored.ensures)
    (rw (c.check.ensures, c.doubleword-stored.ensures, found.3) at c.if-syndrome-eq0.true))

pub returns : goal.returns
unfolding syndrome_of
returns c =
    let found = c.in-Some.ensures in
    let s = bit_xor c.check.result (get_or c.in-Some.cell.now 8 0) in
    let means : c.settle-reading.result ≡ reading_of columns s = ap (λ (p : Reading × Registers). p.0) c.settle-reading.ensures in
    rw (c.answer_of.ensures, means, found.1)
    (fetched_by (lent_state c.args.registers.now c.args.cells.now) found.0 c.args.address found.2 _ _ s (rw found.3 at c.doubleword-stored.ensures)
    (rw (c.check.ensures, c.doubleword-stored.ensures, found.3)) (rw means at c.righted.ensures) _
    (ap (λ (p : Reading × Registers). p.1) c.settle-reading.ensures))
