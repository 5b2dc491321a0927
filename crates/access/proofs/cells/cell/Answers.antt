-- The lent cells are chunks of nine bytes (`cell_found`).
use mathlib.Core.Path.{◌≡◌}
use Rattle.std.proofs.Common.{rules}
use Rattle.std.specs.Prelude.{None}
use Rattle.access.specs.CodeAccess.{lent_cell}
use Rattle.access.proofs.ChunkLaws.{cell_found}
use Rattle.access.proofs.cells.cell.Goals as goal

pub returns : goal.returns
returns c =
    let a = c.args in
    let chunks = c.as_chunks.ensures in
    rw c.in_ok-k.was (cell_found a.cells.now c.in_ok-k.field-0 _ chunks.front chunks.front_len c.get.result c.get.ensures.lookup)

pub returns-in_err-k : goal.returns-in_err-k
returns-in_err-k c =
    let is : c.from_residual.result ≡ None = search rules in
    rw (is, c.in_err-k.was)
