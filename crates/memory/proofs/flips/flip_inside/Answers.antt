-- Refused with 9, or one bit inverted; the answer of a flip is not reported.
use mathlib.Core.Path.{refl, sym, ◌∙◌}
use mathlib.Core.List.{[]}
use mathlib.Core.Option.{some}
use Rattle.std.specs.Prelude.{Some}
use Rattle.calls.specs.Calls.{flip_in}
use Rattle.address_map.specs.CodeRoute.{target_of}
use Rattle.targets.proofs.LendingLaws.{one_judged}
use Rattle.targets.proofs.CarryLaws.{nine_left, one_left}
use Rattle.calls.specs.State.{state}
use Rattle.access.proofs.FetchLaws.{lent_by}
use Rattle.memory.proofs.FlipLaws.{flip_does}
use Rattle.memory.proofs.flips.flip_inside.Goals as goal

pub returns-then-not-is_lent : goal.returns-then-not-is_lent
returns-then-not-is_lent c =
    let cells = c.args.cells.now in
    let k = Some c.args.k in
    let x = flip_in c.args.address c.args.bit in
    λ r. nine_left (state r cells) _ (one_judged cells k k x x) (sym c.is_lent.ensures ∙ c.if-not-is_lent.true) []

pub returns : goal.returns
returns c =
    let cells = c.args.cells.now in
    let k = c.args.k in
    let a = c.args.address in
    let b = c.args.bit in
    let x = flip_in a b in
    let lent = lent_by cells k c.is_lent.ensures ∙ c.if-not-is_lent.false in
    λ r. one_left (state r cells) _ (some k) x (one_judged cells (Some k) (Some k) x x) (sym c.is_lent.ensures ∙ c.if-not-is_lent.false) (flip_does (state r cells) k a b lent _ c.flip.ensures) _ [] [] c.of.ensures refl refl
