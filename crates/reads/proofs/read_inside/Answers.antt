-- Refused with 9, or the bytes of one fetch (`fetched_read`).
use mathlib.Core.Path.{refl, sym, ◌∙◌}
use native.Mathlib.Omega.{arith}
use lib.ListN.{length}
use Rattle.calls.specs.State.{lent_state}
use Rattle.calls.specs.Calls.{read_in}
use Rattle.calls.proofs.SplitLaws.{inside_fits}
use Rattle.address_map.specs.CodeRoute.{target_of}
use Rattle.access.proofs.ReadLaws.{fetched_read}
use Rattle.targets.proofs.LendingLaws.{one_judged, lent_target}
use Rattle.targets.proofs.CarryLaws.{nine_left, one_left}
use Rattle.reads.proofs.read_inside.Goals as goal

pub returns-then-not-is_allowed : goal.returns-then-not-is_allowed
returns-then-not-is_allowed c =
    let cells = c.args.cells.now in
    let k = c.args.k in
    let x = read_in c.args.address (length c.args.buffer.now) in
    nine_left (lent_state c.args.registers.now cells) _ (one_judged cells k k x x) (sym c.is_allowed.ensures ∙ c.if-not-is_allowed.true) c.args.buffer.now

pub returns : goal.returns
returns c =
    let cells = c.args.cells.now in
    let k = c.args.k in
    let a = c.args.address in
    let n = length c.args.buffer.now in
    let x = read_in a n in
    let st = lent_state c.args.registers.now cells in
    let allowed = sym c.is_allowed.ensures ∙ c.if-not-is_allowed.false in
    let lent = lent_target cells (length cells) refl k k refl allowed in
    let does = fetched_read st a n c.fetch-found.result.kind _ _ (inside_fits a n c.requires) (target_of k) (rw lent at c.fetch-found.ensures) in
    one_left st _ (target_of k) x (one_judged cells k k x x) allowed does _ c.args.buffer.now _ c.of.ensures refl
    (rw c.requires at c.copy_out.ensures)
