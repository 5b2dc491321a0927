-- Refused with 9, or four full writes, each of eight of the bytes (`beat_number`).
use Prim.Native.Nat.{ℕ}
use mathlib.Core.Path.{refl, sym, ap, ◌∙◌}
use mathlib.Core.Bool.{◌&&◌}
use mathlib.Core.List.{[]}
use native.Mathlib.Omega.{arith}
use Rattle.std.proofs.Common.{rules}
use lib.ListN.{length}
use Rattle.std.specs.Prelude as code
use Rattle.calls.specs.State.{lent_state}
use Rattle.calls.specs.Calls.{Access, write_in, beat_address, beat_bytes}
use Rattle.basics.proofs.Bools.{and_left, and_right}
use Rattle.address_map.specs.CodeRoute.{cell_by, target_of}
use Rattle.access.specs.CodeAccess.{is_allowed}
use Rattle.targets.proofs.LendingLaws.{four_judged}
use Rattle.targets.proofs.CarryLaws.{nine_left, on_target_lem, four_left}
use Rattle.targets.proofs.ByteLaws.{beat_number}
use Rattle.burst_writes.proofs.write_beats.Goals as goal

pub returns-then-not-are_allowed : goal.returns-then-not-are_allowed
returns-then-not-are_allowed c =
    let cells = c.args.cells.now in
    let a = c.args.address in
    let bs = c.args.bytes.now in
    let at : ℕ → code.Option ℕ = λ i. cell_by c.args.to (beat_address a i) in
    let beat : ℕ → Access = λ i. write_in (beat_address a i) (beat_bytes bs i) in
    nine_left (lent_state c.args.registers.now cells) _ (four_judged cells (at 0) (at 1) (beat 0) (beat 1) (at 2) (at 3) (beat 2) (beat 3))
    (sym c.are_allowed.ensures.value ∙ c.if-not-are_allowed.true) []

pub returns : goal.returns
returns c =
    let cells = c.args.cells.now in
    let a = c.args.address in
    let bs = c.args.bytes.now in
    let at : ℕ → code.Option ℕ = λ i. cell_by c.args.to (beat_address a i) in
    let beat : ℕ → Access = λ i. write_in (beat_address a i) (beat_bytes bs i) in
    let all = sym c.are_allowed.ensures.value ∙ c.if-not-are_allowed.false in
    let p = is_allowed (length cells) (at 0) in
    let q = is_allowed (length cells) (at 1) in
    let u = is_allowed (length cells) (at 2) in
    let v = is_allowed (length cells) (at 3) in
    let low = and_left (p && q) (u && v) all in
    let high = and_right (p && q) (u && v) all in
    let allowed₀ = and_left p q low in
    let allowed₁ = and_right p q low in
    let allowed₂ = and_left u v high in
    let allowed₃ = and_right u v high in
    let bytes₀ = beat_number bs 0 c.number_at-a.result (omega (arith, c.requires)) c.number_at-a.ensures in
    let does₀ = on_target_lem _ _ _ _ _ c.write_full-first.ensures (length cells) (refl) (at 0) c.beat_cell-k.ensures allowed₀ (beat 0)
    (rw c.beat_address.ensures (ap (write_in (beat_address a 0)) bytes₀)) in
    let bytes₁ = beat_number bs 8 c.number_at-b.result (omega (arith, c.requires)) c.number_at-b.ensures in
    let does₁ = on_target_lem _ _ _ _ _ c.write_full-second.ensures (length cells) (search rules) (at 1) c.beat_cell-l.ensures allowed₁ (beat 1)
    (rw c.beat_address-2.ensures (ap (write_in (beat_address a 1)) bytes₁)) in
    let bytes₂ = beat_number bs 16 c.number_at-c.result (omega (arith, c.requires)) c.number_at-c.ensures in
    let does₂ = on_target_lem _ _ _ _ _ c.write_full-third.ensures (length cells) (search rules) (at 2) c.beat_cell-m.ensures allowed₂ (beat 2)
    (rw c.beat_address-3.ensures (ap (write_in (beat_address a 2)) bytes₂)) in
    let bytes₃ = beat_number bs 24 c.number_at-d.result (omega (arith, c.requires)) c.number_at-d.ensures in
    let does₃ = on_target_lem _ _ _ _ _ c.write_full-fourth.ensures (length cells) (search rules) (at 3) c.beat_cell-n.ensures allowed₃ (beat 3)
    (rw c.beat_address-4.ensures (ap (write_in (beat_address a 3)) bytes₃)) in
    four_left (lent_state c.args.registers.now cells) _ _ _ _ (target_of (at 0)) (target_of (at 1)) (target_of (at 2)) (target_of (at 3)) (beat 0) (beat 1) (beat 2) (beat 3)
    (four_judged cells (at 0) (at 1) (beat 0) (beat 1) (at 2) (at 3) (beat 2) (beat 3)) all does₀ does₁ does₂ does₃ _ [] [] c.of.ensures
    refl refl refl refl refl
