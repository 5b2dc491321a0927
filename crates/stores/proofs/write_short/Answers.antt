-- What was fetched is merged and stored again if it is right (`fetched_write`); the bytes are fewer than eight (`short_length`).
use mathlib.Core.Path.{refl, sym, ap, ◌∙◌}
use mathlib.Core.List.{List}
use Rattle.std.specs.Prelude.{Some}
use Prim.Native.Nat.{ℕ}
use Rattle.ecc.specs.Columns.{columns}
use Rattle.ecc.specs.Cell.{encode}
use Rattle.ecc.specs.Lending.{put_cell}
use Rattle.calls.specs.Calls.{room}
use Rattle.calls.specs.State.{lent_state}
use Rattle.access.specs.CodeAccess.{lent_cell, short_bytes, is_right}
use Rattle.stores.proofs.StoreLaws.{test_has_cell, cell_lent, stored_again, kept_as_it_was, fetched_write, short_length}
use Rattle.stores.proofs.write_short.Goals as goal

pub store-requires : goal.store-requires
store-requires c =
    cell_lent c.args.cells.now c.in-Some.k (lent_state c.args.registers.now c.args.cells.now) c.args.address _ _ _ (rw c.in-Some.is at c.fetch-old.ensures)
    (test_has_cell is_right refl _ (sym c.is_right.ensures ∙ c.if-is_right.true))

pub returns-then-is_right : goal.returns-then-is_right
returns-then-is_right c =
    let cells = c.args.cells.now in
    let k = c.in-Some.k in
    let a = c.args.address in
    let st = lent_state c.args.registers.now cells in
    let right = sym c.is_right.ensures ∙ c.if-is_right.true in
    let fetched = rw c.in-Some.is at c.fetch-old.ensures in
    let lent = cell_lent cells k st a _ _ _ fetched (test_has_cell is_right refl _ right) in
    rw c.in-Some.is
    (fetched_write st a _ _ _ (lent_cell cells (Some k)) fetched (short_bytes a c.args.count c.args.value) _
    (short_length (room a) c.args.count c.args.value)
    (stored_again cells k lent _ _ right (c.store.ensures ∙ ap (λ (d : List ℕ). put_cell cells k (encode columns d)) c.with_bytes.ensures)))

pub returns-else-is_right : goal.returns-else-is_right
returns-else-is_right c =
    let cells = c.args.cells.now in
    let a = c.args.address in
    let o = lent_cell cells c.args.k in
    fetched_write (lent_state c.args.registers.now cells) a _ _ _ o c.fetch-old.ensures (short_bytes a c.args.count c.args.value) cells
    (short_length (room a) c.args.count c.args.value)
    (kept_as_it_was cells o _ (sym c.is_right.ensures ∙ c.if-is_right.false))

pub returns-in_default : goal.returns-in_default
returns-in_default c =
    let cells = c.args.cells.now in
    let a = c.args.address in
    fetched_write (lent_state c.args.registers.now cells) a _ _ _ (lent_cell cells c.args.k) c.fetch-old.ensures (short_bytes a c.args.count c.args.value) cells
    (short_length (room a) c.args.count c.args.value) (rw c.in_default.is)
