-- The cell of an address by its route, in the two cases of `cell_by`.
use Rattle.std.proofs.Common.{le-leb}
use borrow.Author.Tests.{lt-leb}
use Rattle.address_map.specs.CodeRoute.{cell_by}
use Rattle.address_map.proofs.routes.cell_at.Goals as goal

pub returns-then-bank_of-ge-NO_BANK : goal.returns-then-bank_of-ge-NO_BANK
unfolding cell_by
returns-then-bank_of-ge-NO_BANK c = simp (← c.bank_of.ensures, le-leb _ _ c.if-bank_of-ge-NO_BANK.true)

pub returns : goal.returns
unfolding cell_by
returns c =
    let first = c.first_of in
    simp (← c.bank_of.ensures, lt-leb _ _ c.if-bank_of-ge-NO_BANK.false, ← first.ensures, c.cell_in_bank.ensures)
