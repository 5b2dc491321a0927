-- Refused with 9, or two short writes, whose bytes are shifted out of one number (`first_bytes`, `rest_bytes`).
use mathlib.Core.Path.{refl, ap}
use mathlib.Core.List.{[]}
use native.Mathlib.Omega.{arith}
use Rattle.std.proofs.Common.{rules}
use lib.ListN.{length, take, drop}
use Rattle.calls.specs.State.{lent_state}
use Rattle.calls.specs.Calls.{write_in, room, next_doubleword}
use Rattle.calls.proofs.SplitLaws.{split_rest, room_ends}
use Rattle.basics.proofs.Bools.{and_left, and_right}
use Rattle.address_map.specs.CodeRoute.{target_of}
use Rattle.access.specs.CodeAccess.{is_allowed}
use Rattle.targets.proofs.LendingLaws.{two_judged}
use Rattle.targets.proofs.CarryLaws.{nine_left, on_target_lem, two_left}
use Rattle.targets.proofs.CallLaws.{next_exact}
use Rattle.targets.proofs.ByteLaws.{first_bytes, rest_bytes}
use Rattle.writes.proofs.write_across.Goals as goal

pub returns-then-not-is_allowed : goal.returns-then-not-is_allowed
returns-then-not-is_allowed c =
    let cells = c.args.cells.now in
    let k = c.args.k in
    let l = c.args.l in
    let a = c.args.address in
    let bs = c.args.bytes.now in
    let x = write_in a (take (room a) bs) in
    let y = write_in (next_doubleword a) (drop (room a) bs) in
    nine_left (lent_state c.args.registers.now cells) _ (two_judged cells k l x y)
    (rw (c.is_allowed.ensures, c.is_allowed-2.ensures) at (c.if-not-is_allowed.true)) []

pub overflow_mul-rest : goal.overflow_mul-rest
overflow_mul-rest c =
    omega (arith, c.room_at-n.ensures, room_ends c.args.address)

pub overflow_shr-rest : goal.overflow_shr-rest
overflow_shr-rest c =
    let bs = c.args.bytes.now in
    omega (arith, c.room_at-n.ensures, split_rest c.args.address (length bs) c.requires.0, c.requires.1)

pub overflow_sub-bytes : goal.overflow_sub-bytes
overflow_sub-bytes c =
    let bs = c.args.bytes.now in
    omega (arith, c.room_at-n.ensures, split_rest c.args.address (length bs) c.requires.0)

pub returns : goal.returns
returns c =
    let cells = c.args.cells.now in
    let k = c.args.k in
    let l = c.args.l in
    let a = c.args.address in
    let bs = c.args.bytes.now in
    let v = c.gathered-value.result in
    let x = write_in a (take (room a) bs) in
    let y = write_in (next_doubleword a) (drop (room a) bs) in
    let s₀ = lent_state c.args.registers.now cells in
    let both = rw (c.is_allowed.ensures, c.is_allowed-2.ensures) at (c.if-not-is_allowed.false) in
    let here = and_left (is_allowed (length cells) k) (is_allowed (length cells) l) both in
    let there = and_right (is_allowed (length cells) k) (is_allowed (length cells) l) both in
    let at_next = next_exact a c.next_doubleword-next.result c.requires.2 c.next_doubleword-next.ensures in
    let ends = c.room_at-n.ensures in
    let low-bytes = first_bytes v bs c.requires.1 c.gathered-value.ensures a c.requires.0 in
    let high-bytes = rest_bytes v bs c.requires.1 c.gathered-value.ensures a c.requires.0 in
    two_left s₀ _ _ (target_of k) (target_of l) x y (two_judged cells k l x y) both (on_target_lem _ _ _ _ _ c.write_short-low.ensures (length cells) refl k refl here x (rw ends (ap (write_in a) low-bytes)))
    (on_target_lem _ _ _ _ _ c.write_short-high.ensures (length cells) (search rules) l refl there y (rw (at_next, ends) (ap (write_in (next_doubleword a)) high-bytes))) _ [] [] c.of.ensures refl refl refl
