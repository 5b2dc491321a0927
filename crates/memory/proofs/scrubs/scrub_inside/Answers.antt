-- Refused with 9, or one scrub.
use mathlib.Core.Path.{refl, sym, ap, ◌∙◌}
use mathlib.Core.List.{[]}
use native.Mathlib.Omega.{arith}
use lib.ListN.{length}
use Rattle.calls.specs.State.{lent_state}
use Rattle.calls.specs.Calls.{scrub_in}
use Rattle.address_map.specs.CodeRoute.{target_of}
use Rattle.targets.proofs.LendingLaws.{one_judged}
use Rattle.targets.proofs.CarryLaws.{nine_left, on_target_lem, one_left}
use Rattle.memory.proofs.scrubs.scrub_inside.Goals as goal

pub returns-then-not-is_allowed : goal.returns-then-not-is_allowed
returns-then-not-is_allowed c =
    let cells = c.args.cells.now in
    let k = c.args.k in
    let x = scrub_in c.args.address in
    nine_left (lent_state c.args.registers.now cells) _ (one_judged cells k k x x) (sym c.is_allowed.ensures ∙ c.if-not-is_allowed.true) []

pub returns : goal.returns
returns c =
    let cells = c.args.cells.now in
    let k = c.args.k in
    let x = scrub_in c.args.address in
    let allowed = sym c.is_allowed.ensures ∙ c.if-not-is_allowed.false in
    one_left (lent_state c.args.registers.now cells) _ (target_of k) x (one_judged cells k k x x) allowed (on_target_lem _ _ _ _ _ c.scrub.ensures (length cells) refl k refl allowed x refl) _ [] [] c.of.ensures refl refl
