-- What was fetched is stored again if it was corrected (`fetched_scrub`).
use mathlib.Core.Path.{refl, sym, ◌∙◌}
use Rattle.std.specs.Prelude.{Some}
use Rattle.calls.specs.State.{lent_state}
use Rattle.access.specs.CodeAccess.{lent_cell, is_corrected}
use Rattle.stores.proofs.StoreLaws.{test_has_cell, cell_lent, stored_again, kept_as_it_was, fetched_scrub}
use Rattle.stores.proofs.scrub.Goals as goal

pub store-requires : goal.store-requires
store-requires c =
    cell_lent c.args.cells.now c.in-Some.k (lent_state c.args.registers.now c.args.cells.now) c.args.address _ _ _ (rw c.in-Some.is at c.fetch-old.ensures)
    (test_has_cell is_corrected refl _ (sym c.is_corrected.ensures ∙ c.if-is_corrected.true))

pub returns-then-is_corrected : goal.returns-then-is_corrected
returns-then-is_corrected c =
    let cells = c.args.cells.now in
    let k = c.in-Some.k in
    let st = lent_state c.args.registers.now cells in
    let right = sym c.is_corrected.ensures ∙ c.if-is_corrected.true in
    let fetched = rw c.in-Some.is at c.fetch-old.ensures in
    let lent = cell_lent cells k st c.args.address _ _ _ fetched (test_has_cell is_corrected refl _ right) in
    rw c.in-Some.is
    (fetched_scrub st c.args.address _ _ _ (lent_cell cells (Some k)) fetched _ (stored_again cells k lent _ _ right c.store.ensures))

pub returns-else-is_corrected : goal.returns-else-is_corrected
returns-else-is_corrected c =
    let cells = c.args.cells.now in
    let o = lent_cell cells c.args.k in
    fetched_scrub (lent_state c.args.registers.now cells) c.args.address _ _ _ o c.fetch-old.ensures cells
    (kept_as_it_was cells o _ (sym c.is_corrected.ensures ∙ c.if-is_corrected.false))

pub returns-in_default : goal.returns-in_default
returns-in_default c =
    let cells = c.args.cells.now in
    fetched_scrub (lent_state c.args.registers.now cells) c.args.address _ _ _ (lent_cell cells c.args.k) c.fetch-old.ensures cells (rw c.in_default.is)
