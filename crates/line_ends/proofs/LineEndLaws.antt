-- The search for the next LF: eight bytes as one number, the first lowest, and one byte at a time.
use mathlib.Core.Path.{◌≡◌, refl, sym, ap, ◌∙◌}
use mathlib.Core.Bool.{Bool, true, false, cond}
use mathlib.Core.List.{List, [], ◌∷◌, ◌++◌}
use Prim.Native.Nat.{ℕ, zero, suc, ◌+◌, ◌*◌, ◌/◌, ◌%◌, ◌^◌, ◌<◌, ◌≤◌}
use native.Mathlib.Nat.{zero-add, mul-one, suc-add}
use native.Mathlib.Omega.{arith}
use lib.Bits.{bit_and, bit_or, bit_xor, and_le_r, or_lt, xor_lt, and_lt, and_block, or_block, xor_block, shifted_half, shifted_even}
use lib.Count.{count_trailing_zeros}
use lib.Dec.{eqb, ltb, leb-suc-suc}
use lib.ListN.{length, get_or, take, drop, length-drop, take-append-drop, drop_of_length-le}
use lib.Seq.{drop-cons, drop-drop, length-take-le}
use borrow.Author.Tests.{eqb-true, lt-ltb, le-ltb, eq-eqb, ne_eqb}
use Rattle.basics.specs.Range.{every}
use Rattle.basics.proofs.RangeLaws.{by_cases, every_at}
use Rattle.eight_bytes.proofs.ByteLaws.{Bytes, number, same}
use Rattle.line_ends.specs.LineEnd.{line_length}

-- 0x80 in each place where x and lf have the same byte, and 0 elsewhere
abbrev pub marks : ℕ → ℕ → ℕ → ℕ → ℕ
marks x lf low high = bit_xor (bit_and (bit_or (bit_and (bit_xor x lf) low + low) (bit_xor x lf)) high) high

abbrev mark : ℕ → ℕ
mark b = marks b 0x0A 0x7F 0x80

-- the lowest byte, and those above it: no carry goes from one to the other
marks_step : (x lf low high b : ℕ) → b < 2 ^ 8 → marks (x * 2 ^ 8 + b) (lf * 2 ^ 8 + 0x0A) (low * 2 ^ 8 + 0x7F) (high * 2 ^ 8 + 0x80) ≡ marks x lf low high * 2 ^ 8 + mark b
marks_step x lf low high b h =
    let v = bit_xor b 0x0A in
    let u = bit_and v 0x7F in
    let vs = bit_xor x lf in
    let us = bit_and vs low in
    let small : v < 2 ^ 8 = xor_lt 8 b 0x0A h (omega arith) in
    let few : u + 0x7F < 2 ^ 8 = omega (arith, and_le_r v 0x7F) in
    let either = or_lt 8 (u + 0x7F) v few small in
    let sum : us * 2 ^ 8 + u + (low * 2 ^ 8 + 0x7F) ≡ (us + low) * 2 ^ 8 + (u + 0x7F) = omega arith in
    rw (
      xor_block 8 x lf b 0x0A h (omega arith),
      and_block 8 vs low v 0x7F small (omega arith),
      sum,
      or_block 8 (us + low) vs (u + 0x7F) v few small,
      and_block 8 (bit_or (us + low) vs) high (bit_or (u + 0x7F) v) 0x80 either (omega arith),
      xor_block 8 (bit_and (bit_or (us + low) vs) high) high (bit_and (bit_or (u + 0x7F) v) 0x80) 0x80 (and_lt 8 (bit_or (u + 0x7F) v) 0x80 either (omega arith)) (omega arith),
    )

abbrev marked : List ℕ → List ℕ
marked [] = []
marked (b ∷ l) = mark b ∷ marked l

pub marks_are : (l : List ℕ) → Bytes l → marks (number l) (same (length l) 0x0A) (same (length l) 0x7F) (same (length l) 0x80) ≡ number (marked l)
marks_are [] h = refl
marks_are (b ∷ l) h =
    let n = length l in
    marks_step (number l) (same n 0x0A) (same n 0x7F) (same n 0x80) b h.0 ∙ ap (λ (x : ℕ). x * 2 ^ 8 + mark b) (marks_are l h.1)

-- one byte, by trying all values
mark_is : (b : ℕ) → b < 2 ^ 8 → mark b ≡ cond (eqb b 0x0A) 0x80 0
unfolding every
mark_is b h = eqb-true _ _ (every_at (λ k. eqb (mark k) (cond (eqb k 0x0A) 0x80 0)) 256 refl b h)

-- ---- the lowest set digit

trailing_shift : (j k a : ℕ) → count_trailing_zeros (j + k) (a * 2 ^ j) ≡ j + count_trailing_zeros k a
unfolding count_trailing_zeros
trailing_shift zero k a = rw (zero-add k, zero-add (count_trailing_zeros k a), mul-one a)
trailing_shift (suc j) k a = rw (suc-add j k, suc-add j (count_trailing_zeros k a), shifted_even a j, shifted_half a j, trailing_shift j k a)

trailing_odd : (k a : ℕ) → count_trailing_zeros (suc k) (a * 2 + 1) ≡ 0
unfolding count_trailing_zeros
trailing_odd k a = let e : (a * 2 + 1) % 2 ≡ 1 = omega arith in rw e

-- in digits, and so in bytes
pub first_marked : (l : List ℕ) → Bytes l → count_trailing_zeros (8 * length l) (number (marked l)) / 8 ≡ line_length l
unfolding line_length count_trailing_zeros
first_marked [] h = refl
first_marked (b ∷ l) h =
    let n = 8 * length l in
    let x = number (marked l) in
    by_cases (eqb b 0x0A)
    (λ t.
    let m : mark b ≡ 0x80 = mark_is b h.0 ∙ rw t in
    let d : 8 * suc (length l) ≡ 7 + suc n = omega arith in
    let y : x * 2 ^ 8 + 0x80 ≡ (x * 2 + 1) * 2 ^ 7 = omega arith in
    rw (t, m, d, y, trailing_shift 7 (suc n) (x * 2 + 1), trailing_odd n x))
    (λ t.
    let m : mark b ≡ 0 = mark_is b h.0 ∙ rw t in
    let d : 8 * suc (length l) ≡ 8 + n = omega arith in
    let y : x * 2 ^ 8 + 0 ≡ x * 2 ^ 8 = omega arith in
    rw (t, m, d, y, trailing_shift 8 n x) (omega (arith, first_marked l h.1)))

-- eight bytes
pub first_of_eight : (l : List ℕ) → length l ≡ 8 → Bytes l
    → count_trailing_zeros 64 (marks (number l) 0x0A0A0A0A0A0A0A0A 0x7F7F7F7F7F7F7F7F 0x8080808080808080) / 8 ≡ line_length l
first_of_eight l e h =
    let m : marks (number l) 0x0A0A0A0A0A0A0A0A 0x7F7F7F7F7F7F7F7F 0x8080808080808080 ≡ number (marked l) = rw e at (marks_are l h) in
    let f : count_trailing_zeros 64 (number (marked l)) / 8 ≡ line_length l = rw e at (first_marked l h) in
    rw m f

-- ---- the first LF of a list, from those of its parts
pub length-append : (xs ys : List ℕ) → line_length (xs ++ ys) ≡ cond (ltb (line_length xs) (length xs)) (line_length xs) (length xs + line_length ys)
unfolding line_length
length-append [] ys = sym (zero-add (line_length ys))
length-append (b ∷ xs) ys =
    by_cases (eqb b 0x0A) (λ t. rw (t, lt-ltb 0 (suc (length xs)) (omega arith)))
    (λ t. rw (t, length-append xs ys, leb-suc-suc (suc (line_length xs)) (length xs)) (go (ltb (line_length xs) (length xs))))
  where
    go : (u : Bool) → suc (cond u (line_length xs) (length xs + line_length ys)) ≡ cond u (suc (line_length xs)) (suc (length xs) + line_length ys)
    go true = refl
    go false = sym (suc-add (length xs) (line_length ys))

-- eight bytes from a place on: LF is among them, or after them
module _ (l : List ℕ) (i n : ℕ) (room : i + 8 ≤ length l) (e : n ≡ line_length (take 8 (drop i l))) where
  size : length (take 8 (drop i l)) ≡ 8
  size = length-take-le 8 (drop i l) (omega (arith, length-drop i l))

  parts : line_length (drop i l) ≡ cond (ltb n 8) n (8 + line_length (drop (i + 8) l))
  parts =
      sym (ap line_length (take-append-drop 8 (drop i l)))
      ∙ length-append (take 8 (drop i l)) (drop 8 (drop i l))
      ∙ rw (← e, size, drop-drop 8 i l)

  pub within_eight : n < 8 → line_length (drop i l) ≡ n
  within_eight h = parts ∙ rw (lt-ltb n 8 h)

  pub past_eight : 8 ≤ n → line_length (drop i l) ≡ 8 + line_length (drop (i + 8) l)
  past_eight h = parts ∙ rw (le-ltb n 8 h)

pub length_lf : (l : List ℕ) (i : ℕ) → i < length l → get_or l i 0 ≡ 0x0A → line_length (drop i l) ≡ 0
unfolding line_length
length_lf l i h e = rw (drop-cons l i 0 h, eq-eqb (get_or l i 0) 0x0A e)

pub length_past : (l : List ℕ) (i j : ℕ) → i + 1 ≡ j → i < length l → (get_or l i 0 ≡ 0x0A → ⊥) → line_length (drop i l) ≡ suc (line_length (drop j l))
unfolding line_length
length_past l i j s h e =
    let t : j ≡ suc i = omega arith in
    rw (t, drop-cons l i 0 h, ne_eqb (get_or l i 0) 0x0A e)

pub length_most : (l : List ℕ) → line_length l ≤ length l
unfolding line_length
length_most [] = omega arith
length_most (b ∷ l) = by_cases (eqb b 0x0A) (λ t. rw t (omega arith)) (λ t. rw t (omega (arith, length_most l)))

-- so it is not beyond the end of a chunk
pub end_within : (l : List ℕ) (i e : ℕ) → i ≤ length l → e ≡ i + line_length (drop i l) → e ≤ length l
end_within l i e h f = omega (arith, length_most (drop i l), length-drop i l)

pub length_end : (l : List ℕ) (i : ℕ) → length l ≤ i → line_length (drop i l) ≡ 0
unfolding line_length
length_end l i h = rw (drop_of_length-le l h)
