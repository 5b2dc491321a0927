-- The bytes of a number by its high and its low part, and of a number that is made of the high part of one and the low part of another.
use mathlib.Core.Path.{◌≡◌, refl, sym, ap, ap₂, ◌∙◌, subst}
use mathlib.Core.List.{List, ◌∷◌, ◌++◌}
use Prim.Native.Nat.{ℕ, zero, suc, ◌+◌, ◌-◌, ◌*◌, ◌/◌, ◌%◌, ◌^◌, ◌<◌, ◌≤◌}
use native.Mathlib.Nat.{mul_assoc, mul-mod_left, add-zero, mod-lt}
use native.Mathlib.Omega.{arith}
use lib.Arith.{digits_lt}
use lib.ListN.{take, drop}
use lib.Pow.{pow-add, pow_pos, shl-shr, shr-shr, shr_lt, mod-pow-add, mod-mod-pow, field}
use Rattle.eight_bytes.specs.CodeNumber.{bytes_in}

-- a byte more is a factor of 256 more
byte_more : (m : ℕ) → 2 ^ (8 * suc m) ≡ 2 ^ (8 * m) * 256
byte_more m =
    let e : 8 * suc m ≡ 8 * m + 8 = omega arith in
    ap (λ (j : ℕ). 2 ^ j) e ∙ pow-add 2 (8 * m) 8

-- a number by its m lowest bytes and those above
pub bytes_append : (m n x y : ℕ) → m ≤ n → x < 2 ^ (8 * m) → bytes_in n (x + y * 2 ^ (8 * m)) ≡ bytes_in m x ++ bytes_in (n - m) y
bytes_append zero n x y l h =
    let e : x + y * 2 ^ (8 * 0) ≡ y = omega arith in
    let all : n - 0 ≡ n = omega arith in
    rw (e, all) refl
bytes_append (suc m) zero x y l h = absurd (omega arith)
bytes_append (suc m) (suc n) x y l h =
    let high : ℕ = y * 2 ^ (8 * m) in
    let e : y * 2 ^ (8 * suc m) ≡ high * 256 = ap (λ (z : ℕ). y * z) (byte_more m) ∙ sym (mul_assoc y (2 ^ (8 * m)) 256) in
    let first : (x + y * 2 ^ (8 * suc m)) % 256 ≡ x % 256 = rw e (omega arith) in
    let rest : (x + y * 2 ^ (8 * suc m)) / 256 ≡ x / 256 + high = rw e (omega arith) in
    let below : x / 256 < 2 ^ (8 * m) = omega (arith, h, byte_more m) in
    let same : suc n - suc m ≡ n - m = omega arith in
    ap₂ (λ (b : ℕ) (t : List ℕ). b ∷ t) first (ap (bytes_in n) rest ∙ bytes_append m n (x / 256) y (omega arith) below ∙ ap (λ (k : ℕ). bytes_in m (x / 256) ++ bytes_in k y) (sym same))

-- all but the o lowest
pub bytes_drop : (o n x : ℕ) → o ≤ n → drop o (bytes_in n x) ≡ bytes_in (n - o) (x / 2 ^ (8 * o))
bytes_drop zero n x l =
    let all : n - 0 ≡ n = omega arith in
    let same : x / 2 ^ (8 * 0) ≡ x = omega arith in
    rw (all, same) refl
bytes_drop (suc o) zero x l = absurd (omega arith)
bytes_drop (suc o) (suc n) x l =
    let e : 8 + 8 * o ≡ 8 * suc o = omega arith in
    let same : suc n - suc o ≡ n - o = omega arith in
    bytes_drop o n (x / 256) (omega arith) ∙ ap₂ bytes_in (sym same) (shr-shr x 8 (8 * o) ∙ ap (λ (j : ℕ). x / 2 ^ j) e)

-- the o lowest
pub bytes_take : (o n x : ℕ) → o ≤ n → take o (bytes_in n x) ≡ bytes_in o x
bytes_take zero n x l = refl
bytes_take (suc o) zero x l = absurd (omega arith)
bytes_take (suc o) (suc n) x l = ap (λ (t : List ℕ). x % 256 ∷ t) (bytes_take o n (x / 256) (omega arith))

-- they are those of the low part
pub bytes_low : (o x : ℕ) → bytes_in o (x % 2 ^ (8 * o)) ≡ bytes_in o x
bytes_low zero x = refl
bytes_low (suc o) x =
    let e : 8 * suc o ≡ 8 * o + 8 = omega arith in
    let first : x % 2 ^ (8 * suc o) % 256 ≡ x % 256 = ap (λ (j : ℕ). x % 2 ^ j % 256) e ∙ mod-mod-pow x (8 * o) 8 in
    let rest : x % 2 ^ (8 * suc o) / 256 ≡ x / 256 % 2 ^ (8 * o) = ap (λ (j : ℕ). x % 2 ^ j / 256) e ∙ field x (8 * o) 8 in
    ap₂ (λ (b : ℕ) (t : List ℕ). b ∷ t) first (ap (bytes_in o) rest ∙ bytes_low o (x / 256))

-- ---- a number shifted down, and above it another, shifted up

module _ (x y o : ℕ) (few : o < 8) (whole : x < 2 ^ 64) where
  -- how many bytes are left of the first
  abbrev left : ℕ
  left = 8 - o

  bits : 64 ≡ 8 * o + 8 * left
  bits = omega arith

  -- what is shifted up loses its high part
  shifted_up : y * 2 ^ (64 - 8 * o) % 2 ^ 64 ≡ y % 2 ^ (8 * o) * 2 ^ (8 * left)
  shifted_up =
      let k : ℕ = 8 * left in
      let e : 64 - 8 * o ≡ k = omega arith in
      ap₂ (λ (i j : ℕ). y * 2 ^ i % 2 ^ j) e bits ∙ mod-pow-add (y * 2 ^ k) (8 * o) k
      ∙ ap₂ (λ (u v : ℕ). u % 2 ^ (8 * o) * 2 ^ k + v) (shl-shr y k) (mul-mod_left y (2 ^ k)) ∙ add-zero _

  shifted_down : x / 2 ^ (8 * o) < 2 ^ (8 * left)
  shifted_down = let e : 64 ≡ 8 * left + 8 * o = omega arith in shr_lt (8 * left) (8 * o) (subst (λ (j : ℕ). x < 2 ^ j) e whole)

  -- neither meets the other
  pub across_fits : x / 2 ^ (8 * o) + y * 2 ^ (64 - 8 * o) % 2 ^ 64 < 2 ^ 64
  across_fits =
      let all : 2 ^ 64 ≡ 2 ^ (8 * o) * 2 ^ (8 * left) = ap (λ (j : ℕ). 2 ^ j) bits ∙ pow-add 2 (8 * o) (8 * left) in
      omega (arith, shifted_up, all, digits_lt (mod-lt y (pow_pos (8 * o))) shifted_down)

  pub across_bytes : bytes_in 8 (x / 2 ^ (8 * o) + y * 2 ^ (64 - 8 * o) % 2 ^ 64) ≡ drop o (bytes_in 8 x) ++ take o (bytes_in 8 y)
  across_bytes =
      let back : 8 - left ≡ o = omega arith in
      ap (λ (z : ℕ). bytes_in 8 (x / 2 ^ (8 * o) + z)) shifted_up
      ∙ bytes_append left 8 (x / 2 ^ (8 * o)) (y % 2 ^ (8 * o)) (omega arith) shifted_down
      ∙ ap₂ (λ (u v : List ℕ). u ++ v) (sym (bytes_drop o 8 x (omega arith))) (ap (λ (k : ℕ). bytes_in k (y % 2 ^ (8 * o))) back ∙ bytes_low o y ∙ sym (bytes_take o 8 y (omega arith)))
