-- Refused with 9, or one write: all eight bytes (`full_bytes`), or fewer (`short_bytes_lem`).
use mathlib.Core.Path.{refl, sym, ap, ◌∙◌}
use mathlib.Core.List.{[]}
use native.Mathlib.Omega.{arith}
use lib.ListN.{length}
use Rattle.calls.specs.State.{lent_state}
use Rattle.calls.specs.Calls.{write_in}
use Rattle.calls.proofs.SplitLaws.{inside_fits}
use Rattle.address_map.specs.CodeRoute.{target_of}
use Rattle.targets.proofs.LendingLaws.{one_judged}
use Rattle.targets.proofs.CarryLaws.{nine_left, on_target_lem, one_left}
use Rattle.targets.proofs.ByteLaws.{full_bytes, short_bytes_lem}
use Rattle.writes.proofs.write_inside.Goals as goal

pub returns-then-not-is_allowed : goal.returns-then-not-is_allowed
returns-then-not-is_allowed c =
    let cells = c.args.cells.now in
    let k = c.args.k in
    let x = write_in c.args.address c.args.bytes.now in
    nine_left (lent_state c.args.registers.now cells) _ (one_judged cells k k x x) (sym c.is_allowed.ensures ∙ c.if-not-is_allowed.true) []

pub returns-then-bytes-eq8 : goal.returns-then-bytes-eq8
returns-then-bytes-eq8 c =
    let cells = c.args.cells.now in
    let k = c.args.k in
    let a = c.args.address in
    let bs = c.args.bytes.now in
    let x = write_in a bs in
    let allowed = sym c.is_allowed.ensures ∙ c.if-not-is_allowed.false in
    let whole = full_bytes c.gathered-value.result bs (omega (arith, inside_fits a (length bs) c.requires)) c.gathered-value.ensures c.if-bytes-eq8.true in
    one_left (lent_state c.args.registers.now cells) _ (target_of k) x (one_judged cells k k x x) allowed (on_target_lem _ _ _ _ _ c.write_full.ensures (length cells) refl k refl allowed x (ap (write_in a) whole)) _ [] [] c.of.ensures refl refl

pub returns : goal.returns
returns c =
    let cells = c.args.cells.now in
    let k = c.args.k in
    let a = c.args.address in
    let bs = c.args.bytes.now in
    let x = write_in a bs in
    let allowed = sym c.is_allowed.ensures ∙ c.if-not-is_allowed.false in
    let short = short_bytes_lem c.gathered-value.result bs (omega (arith, inside_fits a (length bs) c.requires)) c.gathered-value.ensures a c.requires c.if-bytes-eq8.false in
    one_left (lent_state c.args.registers.now cells) _ (target_of k) x (one_judged cells k k x x) allowed (on_target_lem _ _ _ _ _ c.write_short-kind.ensures (length cells) refl k refl allowed x (ap (write_in a) short)) _ [] [] c.of-2.ensures refl refl
