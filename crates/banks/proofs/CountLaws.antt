-- MAP-7: how many cells a ready record can have. A bank of more than 2^24 cells spans 129 megabytes or more, so it holds one of the seven
-- megabytes 128, 257, .., 902, here called marks; and no two banks hold the same.
use mathlib.Core.Path.{◌≡◌}
use mathlib.Core.Bool.{true, cond}
use mathlib.Core.Option.{some}
use Prim.Native.Nat.{ℕ, zero, suc, ◌+◌, ◌*◌, ◌/◌, ◌^◌, ◌≤◌, ◌<◌}
use native.Mathlib.Omega.{arith}
use lib.Dec.{ltb}
use lib.Pow.{pow_mono}
use borrow.Author.Tests.{ltb-true, ltb-false, lt-ltb, le-ltb}
use Rattle.basics.specs.Range.{sum}
use Rattle.basics.proofs.RangeLaws.{by_cases, sum_zero, sum_more, sum_grows, sum_rises, sum_ones}
use Rattle.registers.specs.Record.{at}
use Rattle.registers.specs.declared.Registers.{Registers}
use Rattle.banks.specs.Setup.{Setup, megabytes, setup_of, bank}
use Rattle.banks.specs.Judge.{ready}
use Rattle.banks.specs.Map.{bank_at, cells, share, cells_below, cell_count, cell_of}
use Rattle.banks.proofs.FieldLaws.{Decoded, decoded, bounded}
use Rattle.banks.proofs.SpanLaws.{held_holds}
use Rattle.banks.proofs.AcceptedLaws.{fitting}
use Rattle.banks.proofs.CellLaws.{bank_selected}
use Rattle.banks.proofs.MapLaws.{map_laws}

abbrev mark : ℕ → ℕ
mark i = 129 * i + 128

-- 1 if a bank below n is the first to hold mark i
abbrev marked : Setup → ℕ → ℕ → ℕ
marked s n i = cond (ltb (bank_at s (mark i)) n) 1 0

-- how many of the marks banks below n hold
abbrev marks : Setup → ℕ → ℕ
marks s n = sum (marked s n) 7

marked_ones : (s : Setup) (n i : ℕ) → marked s n i ≤ 1
marked_ones s n i = by_cases (ltb (bank_at s (mark i)) n) (λ t. rw t (omega arith)) (λ t. rw t (omega arith))

marked_grows : (s : Setup) (n i : ℕ) → marked s n i ≤ marked s (n + 1) i
marked_grows s n i =
    let b = bank_at s (mark i) in
    by_cases (ltb b n)
    (λ t. rw (t, lt-ltb b (n + 1) (omega (arith, ltb-true b n t))) (omega arith))
    (λ t. rw t (omega arith))

marked_here : (s : Setup) (n i : ℕ) → bank_at s (mark i) ≡ n → marked s n i < marked s (n + 1) i
marked_here s n i e = rw (e, le-ltb n n (omega arith), lt-ltb n (n + 1) (omega arith)) (omega arith)

module _ (s : Setup) (d : (n : ℕ) → Decoded (bank s n)) (ends : (n : ℕ) → (bank s n).last < 1024) (h : ready s ≡ true) where
  -- a bank with thirteen row bits holds a mark
  mark_held : (n : ℕ) → n < 8 → (bank s n).enabled ≡ true → 12 < (bank s n).row_bits → marks s n < marks s (n + 1)
  unfolding megabytes
  mark_held n l on long =
      let b = bank s n in
      let i = b.start / 129 in
      let f = fitting s h n (d n) l on in
      let m = (d n).rows_long long in
      let held = held_holds b (mark i) (record { on = on; from = omega arith; to = omega (arith, f.ordered, m) }) in
      sum_rises (marked s n) (marked s (n + 1)) 7 i (marked_grows s n) (omega (arith, f.ordered, m, ends n))
      (marked_here s n i (bank_selected s h (mark i) n l held))

  -- each bank adds 2^24 cells at most, and as many again if it holds a mark
  share_most : (n : ℕ) → n < 8 → share (bank s n) + 2 ^ 24 * marks s n ≤ 2 ^ 24 + 2 ^ 24 * marks s (n + 1)
  unfolding share cells
  share_most n l =
      let b = bank s n in
      let grows = sum_grows (marked s n) (marked s (n + 1)) 7 (marked_grows s n) in
      let R = b.row_bits in
      let C = b.column_bits in
      let most = (d n).columns_narrow in
      by_cases b.enabled
      (λ on.
      by_cases (ltb 12 R)
      (λ t.
      let p : 2 ^ (R + C) ≤ 2 ^ 25 = pow_mono {j = 25} (omega (arith, (d n).rows_most, most)) in
      rw on (omega (arith, p, mark_held n l on (ltb-true 12 R t))))
      (λ t.
      let p : 2 ^ (R + C) ≤ 2 ^ 24 = pow_mono {j = 24} (omega (arith, ltb-false 12 R t, most)) in
      rw on (omega (arith, p, grows))))
      (λ off. rw off (omega (arith, grows)))

  below_most : (n : ℕ) → n ≤ 8 → cells_below s n ≤ 2 ^ 24 * (n + marks s n)
  unfolding cells_below
  below_most zero l = omega (arith, sum_zero (λ m. share (bank s m)))
  below_most (suc n) l =
      let e : suc n ≡ n + 1 = omega arith in
      rw (e, sum_more) (omega (arith, below_most n (omega arith), share_most n (omega arith)))

  cells_of_all : cell_count s ≤ 15 * 2 ^ 24
  cells_of_all = omega (arith, below_most 8 (omega arith), sum_ones (marked s 8) 7 (marked_ones s 8))

-- a ready record has at most 251,658,240 cells
pub count_most : (r : Registers) → ((o : ℕ) → o < 256 → at r o < 256) → ready (setup_of r) ≡ true → cell_count (setup_of r) ≤ 15 * 2 ^ 24
count_most r bytes h = cells_of_all (setup_of r) (decoded r) (λ n. (bounded r bytes n).last_most) h

-- and the numbers of its cells are below that
pub number_most :
    (r : Registers)
    → ((o : ℕ) → o < 256 → at r o < 256)
    → ready (setup_of r) ≡ true
    → (a k : ℕ) → cell_of (setup_of r) a ≡ some k → k < 15 * 2 ^ 24
number_most r bytes h a k e = omega (arith, (map_laws r h).within a k e, count_most r bytes h)
