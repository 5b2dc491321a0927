-- Refused with 9, or four fetches of eight bytes (`fetched_read`), copied one after the other.
use Prim.Native.Nat.{ℕ, ◌%◌}
use mathlib.Core.Path.{◌≡◌, refl, sym, ◌∙◌}
use mathlib.Core.Bool.{◌&&◌}
use native.Mathlib.Omega.{arith}
use lib.ListN.{length, take, drop}
use Rattle.std.specs.Prelude as code
use Rattle.calls.specs.State.{lent_state}
use Rattle.calls.specs.Calls.{Access, read_in, beat_address}
use Rattle.calls.proofs.BeatLaws.{beat_aligned}
use Rattle.ecc.specs.Doubleword.{bytes_of_number}
use Rattle.basics.proofs.Bools.{and_left, and_right}
use Rattle.address_map.specs.CodeRoute.{cell_by, target_of}
use Rattle.access.proofs.ReadLaws.{fetched_read}
use Rattle.access.specs.CodeAccess.{is_allowed}
use Rattle.targets.proofs.LendingLaws.{four_judged, lent_target}
use Rattle.targets.proofs.CarryLaws.{nine_left, four_left}
use Rattle.targets.proofs.ByteLaws.{all_taken}
use Rattle.burst_reads.proofs.read_beats.Goals as goal

pub returns-then-not-are_allowed : goal.returns-then-not-are_allowed
returns-then-not-are_allowed c =
    let cells = c.args.cells.now in
    let a = c.args.address in
    let at : ℕ → code.Option ℕ = λ i. cell_by c.args.to (beat_address a i) in
    let beat : ℕ → Access = λ i. read_in (beat_address a i) 8 in
    nine_left (lent_state c.args.registers.now cells) _ (four_judged cells (at 0) (at 1) (beat 0) (beat 1) (at 2) (at 3) (beat 2) (beat 3))
    (sym c.are_allowed.ensures.value ∙ c.if-not-are_allowed.true) c.args.buffer.now

pub returns : goal.returns
returns c =
    let cells = c.args.cells.now in
    let a = c.args.address in
    let at : ℕ → code.Option ℕ = λ i. cell_by c.args.to (beat_address a i) in
    let beat : ℕ → Access = λ i. read_in (beat_address a i) 8 in
    let all = sym c.are_allowed.ensures.value ∙ c.if-not-are_allowed.false in
    let p = is_allowed (length cells) (at 0) in
    let q = is_allowed (length cells) (at 1) in
    let u = is_allowed (length cells) (at 2) in
    let v = is_allowed (length cells) (at 3) in
    let low = and_left (p && q) (u && v) all in
    let high = and_right (p && q) (u && v) all in
    let allowed₀ = and_left p q low in
    let allowed₁ = and_right p q low in
    let allowed₂ = and_left u v high in
    let allowed₃ = and_right u v high in
    let does₀ = fetched_read _ (beat_address a 0) 8 c.fetch-a.result.kind _ _ (omega (arith, beat_aligned a 0 c.requires.0)) (target_of (at 0))
    (rw (lent_target cells (length cells) refl c.beat_cell-k.result (at 0) c.beat_cell-k.ensures allowed₀, c.beat_address.ensures) at c.fetch-a.ensures) in
    let does₁ = fetched_read _ (beat_address a 1) 8 c.fetch-b.result.kind _ _ (omega (arith, beat_aligned a 1 c.requires.0)) (target_of (at 1))
    (rw (lent_target cells (length cells) refl c.beat_cell-l.result (at 1) c.beat_cell-l.ensures allowed₁, c.beat_address-2.ensures) at c.fetch-b.ensures) in
    let does₂ = fetched_read _ (beat_address a 2) 8 c.fetch-c.result.kind _ _ (omega (arith, beat_aligned a 2 c.requires.0)) (target_of (at 2))
    (rw (lent_target cells (length cells) refl c.beat_cell-m.result (at 2) c.beat_cell-m.ensures allowed₂, c.beat_address-3.ensures) at c.fetch-c.ensures) in
    let does₃ = fetched_read _ (beat_address a 3) 8 c.fetch-d.result.kind _ _ (omega (arith, beat_aligned a 3 c.requires.0)) (target_of (at 3))
    (rw (lent_target cells (length cells) refl c.beat_cell-n.result (at 3) c.beat_cell-n.ensures allowed₃, c.beat_address-4.ensures) at c.fetch-d.ensures) in
    let taken : (i d : ℕ) → take 8 (drop (beat_address a i % 8) (bytes_of_number d)) ≡ bytes_of_number d = λ i d. all_taken d (beat_address a i) (beat_aligned a i c.requires.0) in
    four_left (lent_state c.args.registers.now cells) _ _ _ _ (target_of (at 0)) (target_of (at 1)) (target_of (at 2)) (target_of (at 3)) (beat 0) (beat 1) (beat 2) (beat 3)
    (four_judged cells (at 0) (at 1) (beat 0) (beat 1) (at 2) (at 3) (beat 2) (beat 3)) all does₀ does₁ does₂ does₃ _ c.args.buffer.now _ c.of.ensures
    refl refl refl refl
    (rw c.requires.1 at c.copy_line.ensures
    ∙ sym (rw (taken 0 c.fetch-a.result.doubleword, taken 1 c.fetch-b.result.doubleword, taken 2 c.fetch-c.result.doubleword, taken 3 c.fetch-d.result.doubleword)))
