-- A bit above 71 and a cell that is not lent change nothing.
use mathlib.Core.Path.{sym, ◌∙◌}
use native.Mathlib.Omega.{arith}
use borrow.Author.Tests.{ltb-true}
use lib.Dec.{ltb}
use Rattle.basics.proofs.Bools.{and_left, and_right, and_not}
use Rattle.access.proofs.FetchLaws.{lent_by}
use Rattle.stores.proofs.StoreLaws.{flip_outside}
use Rattle.stores.proofs.flip.Goals as goal

pub flip_at-requires : goal.flip_at-requires
flip_at-requires c =
    let both = c.if-is_lent-bit.true in
    let few = ltb-true c.args.bit _ (and_right c.is_lent.result _ both) in
    (lent_by c.args.cells.now c.args.k c.is_lent.ensures ∙ and_left _ _ both, omega (arith, few))

pub returns-then-is_lent-bit : goal.returns-then-is_lent-bit
returns-then-is_lent-bit c =
    rw (lent_by c.args.cells.now c.args.k c.is_lent.ensures ∙ and_left _ _ c.if-is_lent-bit.true) c.flip_at.ensures

pub returns-else-is_lent-bit : goal.returns-else-is_lent-bit
returns-else-is_lent-bit c =
    flip_outside c.args.cells.now c.args.k c.args.bit
    (λ lent. and_not c.is_lent.result (ltb c.args.bit 72) c.if-is_lent-bit.false (sym (lent_by c.args.cells.now c.args.k c.is_lent.ensures) ∙ lent))
