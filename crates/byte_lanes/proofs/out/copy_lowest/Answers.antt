-- `copy_lowest` fills the buffer with the lowest bytes of a number. The loop's invariant: those before the next are there, and the rest of the number is
-- what they are shifted out of (number_at of DoublewordLaws).
use mathlib.Core.Path.{◌≡◌, refl, sym, ap, ◌∙◌}
use Prim.Native.Nat.{ℕ, ◌+◌, ◌*◌, ◌/◌, ◌%◌, ◌^◌}
use native.Mathlib.Omega.{arith}
use lib.ListN.{length, get_or}
use lib.Pow.{shr-shr}
use lib.Seq.{take_all}
use Rattle.std.proofs.lemmas.List.{take_more}
use Rattle.std.proofs.lemmas.Grind.{take-set_at}
use Rattle.ecc.specs.Doubleword.{bytes_of_number}
use Rattle.ecc.proofs.DoublewordLaws.{number_at, number_length}
use Rattle.byte_lanes.proofs.StoreLaws.{eight_are}
use Rattle.byte_lanes.proofs.out.copy_lowest.Goals as goal

pub returns-then-buffer-eq8 : goal.returns-then-buffer-eq8
returns-then-buffer-eq8 c =
    let x = c.args.x in
    let n : length c.args.buffer.now ≡ 8 = c.if-buffer-eq8.true in
    c.copy_from_slice.ensures.after ∙ c.bytes_of.ensures ∙ eight_are x ∙ rw n (sym (take_all 8 (bytes_of_number x) (omega (arith, number_length x))))

pub loop-byte-init : goal.loop-byte-init
loop-byte-init c = (omega arith, refl)

pub loop-byte-preserved : goal.loop-byte-preserved
loop-byte-preserved c =
    let l = c.loop-byte in
    let x = c.args.x in
    let i = l.byte-index in
    let bytes = bytes_of_number x in
    let more : 8 * i + 8 ≡ 8 * (i + 1) = omega arith in
    let next : l.rest % 256 ≡ get_or bytes i 0 = ap (λ (y : ℕ). y % 256) l.invariant.0 ∙ sym (number_at x i (omega arith)) in (
      ap (λ (y : ℕ). y / 256) l.invariant.0 ∙ shr-shr x (8 * i) 8 ∙ ap (λ (j : ℕ). x / 2 ^ j) more,
      take-set_at l.buffer i (i + 1) (l.rest % 256) refl (omega arith)
          ∙ rw (l.invariant.1, next) (sym (take_more bytes i 0 (omega (arith, number_length x)))),
    )

pub returns : goal.returns
returns c =
    let l = c.loop-byte in
    let all : l.byte-index ≡ length c.args.buffer.now = omega arith in
    sym (take_all (length c.args.buffer.now) l.buffer (omega arith)) ∙ rw all at l.invariant.1
