-- The cell is meant and lent, or it is not.
use mathlib.Core.Path.{◌≡◌, ◌∙◌}
use Rattle.std.proofs.Common.{rules}
use Rattle.std.specs.Prelude.{None}
use Rattle.access.specs.CodeAccess.{lent_cell}
use Rattle.access.proofs.FetchLaws.{lent_by, lent_some, lent_none}
use Rattle.stores.proofs.lent.Goals as goal

pub returns-in_err-k : goal.returns-in_err-k
returns-in_err-k c =
    let is : c.from_residual.result ≡ None = search rules in
    rw (is, c.in_err-k.was)

pub returns-then-is_lent : goal.returns-then-is_lent
returns-then-is_lent c =
    let cells = c.args.cells.now in
    let k = c.in_ok-k.k in
    rw c.in_ok-k.was (lent_some cells k (lent_by cells k c.is_lent.ensures ∙ c.if-is_lent.true))

pub returns : goal.returns
returns c =
    let cells = c.args.cells.now in
    let k = c.in_ok-k.k in
    rw c.in_ok-k.was (lent_none cells k (lent_by cells k c.is_lent.ensures ∙ c.if-is_lent.false))
