-- Some lanes of a doubleword, replaced by an exclusive-or with what differs in them. The number is cut at the first of these lanes and after the last
-- (xor_block and and_high of lib.Bits), only what lies between changes, and its bytes are those of the three pieces (AcrossLaws of eight_bytes).
use mathlib.Core.Path.{◌≡◌, refl, sym, ap, ap₂, ◌∙◌, subst}
use mathlib.Core.List.{List, ◌++◌, append_assoc}
use Prim.Native.Nat.{ℕ, ◌+◌, ◌-◌, ◌*◌, ◌/◌, ◌%◌, ◌^◌, ◌<◌, ◌≤◌, min}
use native.Mathlib.Decide.{dec_le}
use native.Mathlib.Nat.{add-zero, add_comm, mod-lt, mod-le, mod-eq_of_lt, min-eq_left, min-eq_right, min-le_left, mul-le-mul_right}
use native.Mathlib.Omega.{arith}
use lib.Bits.{bit_and, bit_xor, and_mod, and_high, xor_block, xor_lt, xor_mod, xor_self, xor_shr, xor_zero_r}
use lib.ListN.{length, take, drop, length-take}
use lib.Pow.{field, high_ones, mod-mod-pow, pow_mono, pow_pos, shl-shr, shr_lt, shr-shr, split}
use lib.Seq.{length-take-le, take_all, take-take}
use Rattle.basics.proofs.XorLaws.{xor_assoc}
use Rattle.eight_bytes.specs.CodeNumber.{bytes_in}
use Rattle.eight_bytes.proofs.AcrossLaws.{bytes_append, bytes_drop, bytes_low, bytes_take}
use Rattle.ecc.specs.Doubleword.{bytes_of_number}
use Rattle.ecc.proofs.DoublewordLaws.{number_length}
use Rattle.calls.specs.Calls.{room}
use Rattle.machine.specs.Cells.{merge}

-- ---- bits of a number, j of them from bit k on

-- what stands from bit k on changes only the part from there on
high_xor : (x z k : ℕ) → bit_xor x (z * 2 ^ k) ≡ bit_xor (x / 2 ^ k) z * 2 ^ k + x % 2 ^ k
high_xor x z k =
    ap₂ bit_xor (sym (split x k)) (sym (add-zero (z * 2 ^ k)))
    ∙ xor_block k (x / 2 ^ k) z (x % 2 ^ k) 0 (mod-lt x (pow_pos k)) (pow_pos k)
    ∙ ap (λ (y : ℕ). bit_xor (x / 2 ^ k) z * 2 ^ k + y) (xor_zero_r (x % 2 ^ k))

-- what stands below bit j changes only the part below
low_xor : (x z j : ℕ) → z < 2 ^ j → bit_xor x z ≡ x / 2 ^ j * 2 ^ j + bit_xor (x % 2 ^ j) z
low_xor x z j h =
    let same : z ≡ 0 * 2 ^ j + z = omega arith in
    ap₂ bit_xor (sym (split x j)) same
    ∙ xor_block j (x / 2 ^ j) 0 (x % 2 ^ j) z (mod-lt x (pow_pos j)) h
    ∙ ap (λ (y : ℕ). y * 2 ^ j + bit_xor (x % 2 ^ j) z) (xor_zero_r (x / 2 ^ j))

-- the difference of x and y makes y of x
xor_across : (x y : ℕ) → bit_xor x (bit_xor x y) ≡ y
xor_across x y = sym (xor_assoc x x y) ∙ ap (λ (z : ℕ). bit_xor z y) (xor_self x)

-- the bits of y in place of those of x
bits_replaced : (x y j k : ℕ)
    → bit_xor x (bit_xor x y / 2 ^ k % 2 ^ j * 2 ^ k) ≡ (x / 2 ^ k / 2 ^ j * 2 ^ j + y / 2 ^ k % 2 ^ j) * 2 ^ k + x % 2 ^ k
bits_replaced x y j k =
    let p : ℕ = x / 2 ^ k in
    let old : ℕ = p % 2 ^ j in
    let new : ℕ = y / 2 ^ k % 2 ^ j in
    let differ : bit_xor x y / 2 ^ k % 2 ^ j ≡ bit_xor old new = ap (λ (z : ℕ). z % 2 ^ j) (xor_shr x y k) ∙ xor_mod p (y / 2 ^ k) j in
    let small : bit_xor old new < 2 ^ j = xor_lt j old new (mod-lt p (pow_pos j)) (mod-lt (y / 2 ^ k) (pow_pos j)) in
    high_xor x (bit_xor x y / 2 ^ k % 2 ^ j) k
    ∙ ap (λ (z : ℕ). z * 2 ^ k + x % 2 ^ k)
    (ap (bit_xor p) differ ∙ low_xor p (bit_xor old new) j small ∙ ap (λ (z : ℕ). p / 2 ^ j * 2 ^ j + z) (xor_across old new))

-- ones there let these bits through, and what is shifted out at w of them is no loss
bits_masked : (x j k w : ℕ) → x < 2 ^ w → bit_and x ((2 ^ j - 1) * 2 ^ k % 2 ^ w) ≡ x / 2 ^ k % 2 ^ j * 2 ^ k
bits_masked x j k w h =
    let ones : ℕ = (2 ^ j - 1) * 2 ^ k in
    let part : x / 2 ^ k % 2 ^ j * 2 ^ k ≤ x / 2 ^ k * 2 ^ k = mul-le-mul_right (2 ^ k) (mod-le (x / 2 ^ k) (2 ^ j)) in
    ap (λ (y : ℕ). bit_and y (ones % 2 ^ w)) (sym (mod-eq_of_lt h))
    ∙ sym (and_mod x ones w)
    ∙ ap (λ (y : ℕ). bit_and x y % 2 ^ w) (sym (high_ones j k))
    ∙ ap (λ (y : ℕ). y % 2 ^ w) (and_high x j k)
    ∙ mod-eq_of_lt (omega (arith, part, split x k, h))

-- a number of k bits has no bit above them
bits_all : (x j k : ℕ) → x < 2 ^ k → x % 2 ^ j ≡ x % 2 ^ min k j
bits_all x j k h =
    elim (dec_le k j) [
      | yes l ↦ rw (min-eq_left l) (mod-eq_of_lt (omega (arith, pow_mono {i = k} {j = j} l)) ∙ sym (mod-eq_of_lt h))
      | no l ↦ rw (min-eq_right {n = j} {m = k} (omega arith)) refl
    ]

-- ---- the smaller of two counts

take_min : (m n : ℕ) (l : List ℕ) → take m (take n l) ≡ take (min m n) l
take_min m n l =
    elim (dec_le m n) [
      | yes h ↦ rw (min-eq_left h) (take-take m n l h)
      | no h ↦ rw (min-eq_right {n = n} {m = m} (omega arith)) (take_all m (take n l) (omega (arith, length-take n l, min-le_left n (length l))))
    ]

lanes_min : (m n : ℕ) → min (8 * m) (8 * n) ≡ 8 * min m n
lanes_min m n =
    elim (dec_le m n) [
      | yes h ↦ rw (min-eq_left h) (min-eq_left {n = 8 * m} {m = 8 * n} (omega arith))
      | no h ↦ rw (min-eq_right {n = n} {m = m} (omega arith)) (min-eq_right {n = 8 * n} {m = 8 * m} (omega arith))
    ]

-- ---- n lanes from lane o on, of which those past the last lane of the doubleword are dropped

module _ (d v o n : ℕ) where
  -- where the first of them starts, and how many lanes there are from it on
  abbrev start : ℕ
  start = 8 * o

  abbrev left : ℕ
  left = 8 - o

  -- how many are replaced
  abbrev count : ℕ
  count = min left n

  abbrev width : ℕ
  width = 8 * count

  -- the value, shifted up to its lanes
  abbrev shifted : ℕ
  shifted = v * 2 ^ start % 2 ^ 64

  -- the doubleword with the value in these lanes, as `with_bytes` computes it
  abbrev replaced : ℕ
  replaced = bit_xor d (bit_and (bit_xor d shifted) ((2 ^ (8 * n) - 1) * 2 ^ start % 2 ^ 64))

  module _ (few : o < 8) (whole : d < 2 ^ 64) where
    bits : 64 ≡ 8 * left + start
    bits = omega arith

    -- what is shifted out does not belong to these lanes
    shifted_part : shifted / 2 ^ start % 2 ^ width ≡ v % 2 ^ width
    shifted_part =
        let e : 8 * left ≡ (8 * left - width) + width = omega (arith, min-le_left left n) in
        ap (λ (j : ℕ). v * 2 ^ start % 2 ^ j / 2 ^ start % 2 ^ width) bits
        ∙ ap (λ (x : ℕ). x % 2 ^ width) (field (v * 2 ^ start) (8 * left) start ∙ ap₂ (λ (x j : ℕ). x % 2 ^ j) (shl-shr v start) e)
        ∙ mod-mod-pow v (8 * left - width) width

    -- nor do ones past the last lane
    masked : bit_and (bit_xor d shifted) ((2 ^ (8 * n) - 1) * 2 ^ start % 2 ^ 64) ≡ bit_xor d shifted / 2 ^ start % 2 ^ width * 2 ^ start
    masked =
        let x : ℕ = bit_xor d shifted in
        let fits : x < 2 ^ 64 = xor_lt 64 d shifted whole (mod-lt (v * 2 ^ start) (pow_pos 64)) in
        let below : x / 2 ^ start < 2 ^ (8 * left) = shr_lt (8 * left) start (subst (λ (j : ℕ). x < 2 ^ j) bits fits) in
        let e : min (8 * left) (8 * n) ≡ width = lanes_min left n in
        bits_masked x (8 * n) start 64 fits ∙ ap (λ (y : ℕ). y * 2 ^ start) (bits_all (x / 2 ^ start) (8 * n) (8 * left) below ∙ ap (λ (j : ℕ). x / 2 ^ start % 2 ^ j) e)

    three_pieces : replaced ≡ d % 2 ^ start + (v % 2 ^ width + d / 2 ^ start / 2 ^ width * 2 ^ width) * 2 ^ start
    three_pieces =
        let high : ℕ = d / 2 ^ start / 2 ^ width * 2 ^ width in
        ap (bit_xor d) masked ∙ bits_replaced d shifted width start
        ∙ ap (λ (x : ℕ). (high + x) * 2 ^ start + d % 2 ^ start) shifted_part
        ∙ ap (λ (x : ℕ). x * 2 ^ start + d % 2 ^ start) (add_comm high (v % 2 ^ width))
        ∙ add_comm ((v % 2 ^ width + high) * 2 ^ start) (d % 2 ^ start)

    three_parts : bytes_in 8 replaced ≡ take o (bytes_in 8 d) ++ (take count (bytes_in 8 v) ++ drop (o + count) (bytes_in 8 d))
    three_parts =
        let high : ℕ = d / 2 ^ start / 2 ^ width in
        let within : count ≤ left = min-le_left left n in
        let behind : left - count ≡ 8 - (o + count) = omega arith in
        let at : start + width ≡ 8 * (o + count) = omega arith in
        ap (bytes_in 8) three_pieces
        ∙ bytes_append o 8 (d % 2 ^ start) (v % 2 ^ width + high * 2 ^ width) (omega arith) (mod-lt d (pow_pos start))
        ∙ ap₂ (λ (x y : List ℕ). x ++ y) (bytes_low o d ∙ sym (bytes_take o 8 d (omega arith)))
        (bytes_append count left (v % 2 ^ width) high within (mod-lt v (pow_pos width))
        ∙ ap₂ (λ (x y : List ℕ). x ++ y) (bytes_low count v ∙ sym (bytes_take count 8 v (omega arith)))
        (ap₂ bytes_in behind (shr-shr d start width ∙ ap (λ (j : ℕ). d / 2 ^ j) at) ∙ sym (bytes_drop (o + count) 8 d (omega arith))))

-- MEM-5: the bytes of a value in place of those of a doubleword, from the address on
pub lanes_merge : (d v a n : ℕ) → d < 2 ^ 64
    → bytes_of_number (replaced d v (a % 8) n) ≡ merge (a % 8) (take (room a) (take n (bytes_of_number v))) (bytes_of_number d)
unfolding bytes_of_number room merge
lanes_merge d v a n whole =
    let o : ℕ = a % 8 in
    let m : ℕ = min (8 - o) n in
    let few : o < 8 = omega arith in
    let part : take (8 - o) (take n (bytes_in 8 v)) ≡ take m (bytes_in 8 v) = take_min (8 - o) n (bytes_in 8 v) in
    let many : length (take m (bytes_in 8 v)) ≡ m = length-take-le m (bytes_in 8 v) (omega (arith, min-le_left (8 - o) n, number_length v)) in
    rw (part, many) (three_parts d v o n few whole ∙ sym (append_assoc (take o (bytes_in 8 d)) (take m (bytes_in 8 v)) (drop (o + m) (bytes_in 8 d))))
