-- The accesses of a call that no argument refuses.
use Prim.Native.Nat.{ℕ, ◌+◌, ◌-◌, ◌%◌, ◌≤◌, ◌<◌}
use mathlib.Core.Path.{◌≡◌}
use mathlib.Core.Option.{none}
use native.Mathlib.Omega.{arith}
use lib.ListN.{length, length-drop}
use lib.Seq.{length-take-le}
use Rattle.basics.specs.Lists.{All}
use Rattle.basics.proofs.RangeLaws.{by_cases}
use Rattle.calls.specs.Calls.{MemoryCall, read, write, flip, scrub, burst_read, burst_write, Access, read_in, write_in, flip_in, scrub_in, beat_address, beat_bytes, crosses, room, next_doubleword, parts}
use Rattle.calls.specs.Spans.{by_arguments}
use Rattle.calls.proofs.SpanLaws.{count_fits, bit_fits, burst_fits}
use Rattle.calls.proofs.BeatLaws.{beat_aligned, beat_length}
use Rattle.calls.proofs.SplitLaws.{inside_fits, split_rest, room_ends, next_at}

-- an access stays inside its doubleword, and the bit of a flip is one of the 72
abbrev pub Fits : Access → Type 0
Fits (read_in a n) = a % 8 + n ≤ 8
Fits (write_in a bs) = a % 8 + length bs ≤ 8
Fits (flip_in a b) = b < 72
Fits (scrub_in a) = Unit {0}

-- the second part begins at its doubleword, and has no more than the call has
rest_fits : (a n : ℕ) → n ≤ 8 → next_doubleword a % 8 + (n - room a) ≤ 8
rest_fits a n h = omega (arith, next_at a, h)

pub parts_fit : (c : MemoryCall) → by_arguments c ≡ none → All Fits (parts c)
unfolding by_arguments parts
parts_fit (read a n) e =
    by_cases (crosses a n) (λ t. rw t (omega (arith, room_ends a), (rest_fits a n (count_fits a n e).few, tt))) (λ t. rw t (inside_fits a n t, tt))
parts_fit (write a bs) e =
    by_cases (crosses a (length bs))
    (λ t.
    let more = split_rest a (length bs) t in
    rw t (omega (arith, room_ends a, length-take-le (room a) bs (omega arith)), (rw (length-drop (room a) bs) (rest_fits a (length bs) (count_fits a (length bs) e).few), tt)))
    (λ t. rw t (inside_fits a (length bs) t, tt))
parts_fit (flip a b) e = (bit_fits b e, tt)
parts_fit (scrub a) e = (tt, tt)
parts_fit (burst_read a n) e =
    let beat : (i : ℕ) → beat_address a i % 8 + 8 ≤ 8 = λ i. omega (arith, beat_aligned a i (burst_fits a n e).0) in
    (beat 0, (beat 1, (beat 2, (beat 3, tt))))
parts_fit (burst_write a bs) e =
    let h = burst_fits a (length bs) e in
    let beat : (i : ℕ) → i < 4 → beat_address a i % 8 + length (beat_bytes bs i) ≤ 8 = λ i l. omega (arith, beat_aligned a i h.0, beat_length bs i h.1 l) in
    (beat 0 (omega arith), (beat 1 (omega arith), (beat 2 (omega arith), (beat 3 (omega arith), tt))))
