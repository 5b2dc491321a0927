-- The folded check byte is the check byte under the columns of ECC-2: both respect the exclusive-or, and of a doubleword with just one bit set each is
-- the column of that bit in the table, which is shown for the masks by one computation over the table.
use mathlib.Core.Path.{◌≡◌, refl, sym, ap, ap₂, ◌∙◌, subst}
use mathlib.Core.Bool.{true}
use mathlib.Core.List.{List}
use Prim.Native.Nat.{ℕ, zero, suc, ◌+◌, ◌-◌, ◌*◌, ◌/◌, ◌%◌, ◌^◌, ◌<◌}
use native.Mathlib.Nat.{mod-eq_of_lt, lt_of_le_of_lt}
use native.Mathlib.Omega.{arith}
use borrow.Author.Tests.{eqb-true}
use lib.Bits.{bit_and, bit_or, bit_xor, and_mod, and_shifted, or_disjoint, xor_disjoint}
use lib.Dec.{eqb}
use lib.ListN.{get_or}
use lib.Pow.{shr_lt, shr_le}
use Rattle.basics.specs.Range.{every}
use Rattle.basics.proofs.RangeLaws.{every_at}
use Rattle.basics.proofs.XorLaws.{xor_four}
use Rattle.basics.proofs.LinearLaws.{Linear, linear_self, linear_and, linear_shr, linear_mod, linear_shl, linear_xor, linear_same}
use Rattle.ecc.specs.Columns.{columns}
use Rattle.ecc.specs.CheckCode.{bit_at, data_bit, taken, xor_of, check_of}
use Rattle.ecc.specs.Doubleword.{bytes_of_number}
use Rattle.std.specs.Int.{w64, rotate_left}
use Rattle.check_byte.specs.CodeFold.{rotated, masked, folded, over_shifted, folded_masks, laid_over, folded_check}
use Rattle.ecc.proofs.BitLaws.{bit_xor_lem, taken_xor}
use Rattle.ecc.proofs.DoublewordLaws.{number_at, bit_in_number, check_one}
use Rattle.ecc.proofs.FlipLaws.{data_lt}

-- ---- the check byte under any columns

-- the bits of h are those of f and g together
xor_bits : (f g h : ℕ → ℕ) (cols : List ℕ) (n : ℕ) → ((i : ℕ) → f i < 2) → ((i : ℕ) → g i < 2)
    → ((i : ℕ) → i < n → h i ≡ bit_xor (f i) (g i)) → xor_of h cols n ≡ bit_xor (xor_of f cols n) (xor_of g cols n)
unfolding xor_of
xor_bits f g h cols zero lf lg e = refl
xor_bits f g h cols (suc n) lf lg e =
    let c : ℕ = get_or cols n 0 in
    ap₂ (λ (x y : ℕ). bit_xor x (taken y c)) (xor_bits f g h cols n lf lg (λ i l. e i (omega arith))) (e n (omega arith))
    ∙ ap (bit_xor (bit_xor (xor_of f cols n) (xor_of g cols n))) (taken_xor (f n) (g n) c (lf n) (lg n))
    ∙ xor_four (xor_of f cols n) (xor_of g cols n) (taken (f n) c) (taken (g n) c)

byte_linear : (k : ℕ) → k < 8 → Linear (λ x. get_or (bytes_of_number x) k 0)
byte_linear k h x y =
    number_at (bit_xor x y) k h
    ∙ linear_mod (λ z. z / 2 ^ (8 * k)) (linear_shr (λ z. z) linear_self (8 * k)) 8 x y
    ∙ rw (number_at x k h, number_at y k h)

check_linear : (cols : List ℕ) → Linear (λ x. check_of cols (bytes_of_number x))
unfolding check_of data_bit
check_linear cols x y =
    xor_bits (data_bit (bytes_of_number x)) (data_bit (bytes_of_number y)) (data_bit (bytes_of_number (bit_xor x y))) cols 64
    (data_lt (bytes_of_number x)) (data_lt (bytes_of_number y))
    (λ i l. ap (λ (z : ℕ). bit_at z (7 - i % 8)) (byte_linear (i / 8) (omega arith) x y)
    ∙ bit_xor_lem (get_or (bytes_of_number x) (i / 8) 0) (get_or (bytes_of_number y) (i / 8) 0) (7 - i % 8))

-- ---- the two parts of a rotation

-- no bit is set in both, so that `|` joins them as `^` does
rotated_or : (x n : ℕ) → n < 64 → x < 2 ^ 64 → bit_or (x * 2 ^ n % 2 ^ 64) (x / 2 ^ (64 - n)) ≡ rotated x n
unfolding rotated
rotated_or x n h whole =
    let up : ℕ = x * 2 ^ n % 2 ^ 64 in
    let down : ℕ = x / 2 ^ (64 - n) in
    let bits : 64 ≡ n + (64 - n) = omega arith in
    let low : down < 2 ^ n = shr_lt n (64 - n) (subst (λ (j : ℕ). x < 2 ^ j) bits whole) in
    let same : down % 2 ^ 64 ≡ down = mod-eq_of_lt (lt_of_le_of_lt (shr_le x (64 - n)) whole) in
    let apart : bit_and up down ≡ 0 = ap (bit_and up) (sym same) ∙ sym (and_mod (x * 2 ^ n) down 64) ∙ ap (λ (z : ℕ). z % 2 ^ 64) (and_shifted x n down low) in
    or_disjoint up down apart ∙ sym (xor_disjoint up down apart)

-- ---- the folds

pub left_rotated : (x n : ℕ) → 0 < n → n < 64 → x < 2 ^ 64 → rotate_left w64 x n ≡ rotated x n
left_rotated x n some few whole =
    let up : n % 64 ≡ n = omega arith in
    let down : (64 - n) % 64 ≡ 64 - n = omega arith in
    rw (up, down) (rotated_or x n few whole)

rotated_linear : (f : ℕ → ℕ) → Linear f → (n : ℕ) → Linear (λ x. rotated (f x) n)
unfolding rotated
rotated_linear f lf n =
    linear_xor (λ x. f x * 2 ^ n % 2 ^ 64) (λ x. f x / 2 ^ (64 - n)) (linear_shl f lf 64 n) (linear_shr f lf (64 - n))

shifted_linear : (f : ℕ → ℕ) → Linear f → (n : ℕ) → Linear (λ x. over_shifted (f x) n)
unfolding over_shifted
shifted_linear f lf n = linear_xor f (λ x. f x / 2 ^ n) lf (linear_shr f lf n)

module _ (f g : ℕ → ℕ) (lf : Linear f) (lg : Linear g) where
  masked_linear : (k l : ℕ) → Linear (λ x. masked (f x) (g x) k l)
  unfolding masked
  masked_linear k l = linear_xor (λ x. bit_and (f x) k) (λ x. bit_and (g x) l) (linear_and f lf k) (linear_and g lg l)

  folded_linear : (n : ℕ) → Linear (λ x. folded (f x) (g x) n)
  unfolding folded
  folded_linear n = linear_xor f (λ x. rotated (g x) n) lf (rotated_linear g lg n)

-- a number and the same number rotated, each under its mask; and two of these, folded
masks_linear : (k l : ℕ) → Linear (λ x. masked x (rotated x 4) k l)
masks_linear = masked_linear (λ x. x) (λ x. rotated x 4) linear_self (rotated_linear (λ x. x) linear_self 4)

pair_linear : (k l m n : ℕ) → Linear (λ x. folded (masked x (rotated x 4) k l) (masked x (rotated x 4) m n) 2)
pair_linear k l m n = folded_linear _ _ (masks_linear k l) (masks_linear m n) 2

folded_masks_linear : Linear folded_masks
unfolding folded_masks
folded_masks_linear = folded_linear _ _ (pair_linear _ _ _ _) (pair_linear _ _ _ _) _

thrice_linear : (f : ℕ → ℕ) → Linear f → (i j k : ℕ) → Linear (λ x. over_shifted (over_shifted (over_shifted (f x) i) j) k)
thrice_linear f lf i j k =
    shifted_linear (λ x. over_shifted (over_shifted (f x) i) j) (shifted_linear (λ x. over_shifted (f x) i) (shifted_linear f lf i) j) k

fold_linear : Linear folded_check
unfolding folded_check laid_over
fold_linear =
    linear_mod (λ x. over_shifted (over_shifted (over_shifted (folded_masks x) 32) 16) 8) (thrice_linear folded_masks folded_masks_linear 32 16 8) 8

-- ---- they agree

-- FORM-5: the masks are those of the table of columns (`ecc::columns::COLUMNS`, which is proved to be this list): of a doubleword in which just data
-- bit i is set the folds leave entry i of the table, for each of its 64 entries
masks_are_columns : every (λ i. eqb (folded_check (2 ^ bit_in_number i)) (get_or columns i 0)) 64 ≡ true
unfolding every folded_check laid_over folded_masks folded over_shifted masked rotated
masks_are_columns = refl

-- every bit of a number is some data bit
one_bit : (k : ℕ) → k < 64 → folded_check (2 ^ k) ≡ check_of columns (bytes_of_number (2 ^ k))
one_bit k h =
    let i : ℕ = bit_in_number k in
    let within : i < 64 = omega arith in
    let back : bit_in_number i ≡ k = omega arith in
    rw (← back)
    (eqb-true (folded_check (2 ^ bit_in_number i)) (get_or columns i 0)
    (every_at (λ j. eqb (folded_check (2 ^ bit_in_number j)) (get_or columns j 0)) 64 masks_are_columns i within)
    ∙ sym (check_one columns i within))

pub fold_is_check : (x : ℕ) → x < 2 ^ 64 → folded_check x ≡ check_of columns (bytes_of_number x)
fold_is_check = linear_same folded_check (λ x. check_of columns (bytes_of_number x)) fold_linear (check_linear columns) 64 one_bit
