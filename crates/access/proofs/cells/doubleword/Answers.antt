-- `number_at` finds eight of the nine bytes (`le-leb`).
use mathlib.Core.Path.{◌∙◌}
use native.Mathlib.Omega.{arith}
use borrow.Author.Tests.{le-leb}
use lib.ListN.{length}
use Rattle.eight_bytes.specs.CodeNumber.{eight_at}
use Rattle.ecc.specs.Doubleword.{bytes_of_number}
use Rattle.access.proofs.cells.doubleword.Goals as goal

pub returns : goal.returns
unfolding bytes_of_number eight_at
returns c =
    c.number_at.ensures ∙ rw (le-leb 8 (length c.args.cell.now) (omega arith))
