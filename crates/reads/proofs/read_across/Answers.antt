-- Refused with 9, or the bytes of two fetches (`fetched_read`, `across_taken`).
use Prim.Native.Nat.{◌-◌}
use mathlib.Core.Path.{refl, ◌∙◌}
use native.Mathlib.Omega.{arith}
use lib.ListN.{length}
use Rattle.calls.specs.State.{lent_state}
use Rattle.calls.specs.Calls.{read_in, room, next_doubleword}
use Rattle.calls.proofs.SplitLaws.{room_ends, next_aligned}
use Rattle.basics.proofs.Bools.{and_left, and_right}
use Rattle.address_map.specs.CodeRoute.{target_of}
use Rattle.access.proofs.ReadLaws.{fetched_read}
use Rattle.access.specs.CodeAccess.{is_allowed}
use Rattle.targets.proofs.LendingLaws.{two_judged, lent_target}
use Rattle.targets.proofs.CarryLaws.{nine_left, two_left}
use Rattle.targets.proofs.CallLaws.{next_exact}
use Rattle.targets.proofs.ByteLaws.{across_taken}
use Rattle.reads.proofs.read_across.Goals as goal

pub returns-then-not-is_allowed : goal.returns-then-not-is_allowed
returns-then-not-is_allowed c =
    let cells = c.args.cells.now in
    let k = c.args.k in
    let l = c.args.l in
    let a = c.args.address in
    let x = read_in a (room a) in
    let y = read_in (next_doubleword a) (length c.args.buffer.now - room a) in
    nine_left (lent_state c.args.registers.now cells) _ (two_judged cells k l x y)
    (rw (c.is_allowed.ensures, c.is_allowed-2.ensures) at (c.if-not-is_allowed.true)) c.args.buffer.now

pub returns : goal.returns
returns c =
    let cells = c.args.cells.now in
    let k = c.args.k in
    let l = c.args.l in
    let a = c.args.address in
    let n = length c.args.buffer.now in
    let x = read_in a (room a) in
    let y = read_in (next_doubleword a) (n - room a) in
    let s₀ = lent_state c.args.registers.now cells in
    let both = rw (c.is_allowed.ensures, c.is_allowed-2.ensures) at (c.if-not-is_allowed.false) in
    let here = lent_target cells (length cells) refl k k refl (and_left (is_allowed (length cells) k) (is_allowed (length cells) l) both) in
    let there = lent_target cells (length cells) refl l l refl (and_right (is_allowed (length cells) k) (is_allowed (length cells) l) both) in
    let at_next = next_exact a c.next_doubleword.result c.requires.2 c.next_doubleword.ensures in
    let ends = room_ends a in
    let few = c.requires.1 in
    let does = fetched_read s₀ a (room a) c.fetch-low.result.kind _ _ (omega arith) (target_of k) (rw here at c.fetch-low.ensures) in
    let then-does = fetched_read _ (next_doubleword a) (n - room a) c.fetch-high.result.kind _ _ (omega (arith, next_aligned a)) (target_of l) (rw (there, at_next) at c.fetch-high.ensures) in
    two_left s₀ _ _ (target_of k) (target_of l) x y (two_judged cells k l x y) both does then-does _ c.args.buffer.now _ c.of.ensures refl refl
    (c.copy_across.ensures ∙ across_taken c.fetch-low.result.doubleword c.fetch-high.result.doubleword a n c.args.buffer.now c.requires.0 few)
