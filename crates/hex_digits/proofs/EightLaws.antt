-- Eight hexadecimal digits as one number of eight bytes, the first lowest: laws of one byte, lifted to all bytes of a list.
use mathlib.Core.Path.{◌≡◌, refl, sym, ap, ◌∙◌}
use mathlib.Core.Bool.{Bool, true, false, cond}
use mathlib.Core.List.{List, [], ◌∷◌}
use Rattle.std.specs.Prelude.{Option, None, Some}
use Prim.Native.Nat.{ℕ, ◌+◌, ◌*◌, ◌/◌, ◌%◌, ◌^◌, ◌<◌, ◌≤◌}
use native.Mathlib.Omega.{arith}
use lib.Bits.{bit_and, bit_or, bit_xor, and_le_r, and_block, or_block, xor_block, or_lt, xor_lt}
use lib.Dec.{eqb, ltb}
use lib.ListN.{length, get_or}
use borrow.Author.Tests.{eqb-true, eq-eqb, ltb-true}
use Rattle.basics.specs.Range.{every}
use Rattle.basics.proofs.RangeLaws.{by_cases, every_at}
use Rattle.eight_bytes.specs.CodeNumber.{bytes_in}
use Rattle.eight_bytes.proofs.ByteLaws.{Bytes, number, same, eight_are}
use Rattle.hex_digits.specs.Digits.{decimal_digit, hex_digit, hex_from}

-- the number of what f makes of each byte
abbrev pub each : (ℕ → ℕ) → List ℕ → ℕ
each f [] = 0
each f (b ∷ l) = each f l * 2 ^ 8 + f b

-- ---- 0x80 in each place where x has no digit, and else 0
-- c, d, e and f have in each place what is missing from '0', ':', 'a' and 'g' to 0x80: a digit reaches one or three of the four
abbrev pub misfits : (x low high c d e f : ℕ) → ℕ
misfits x low high c d e f =
    bit_and (bit_or (bit_xor (bit_xor (bit_xor (bit_xor (bit_and x low + c) (bit_and x low + d)) (bit_and x low + e)) (bit_and x low + f)) high) x) high

abbrev pub misfit : ℕ → ℕ
misfit b = misfits b 0x7F 0x80 0x50 0x46 0x1F 0x19

-- the lowest byte, and those above it: no sum goes over from one to the other
misfits_step : (x low high c d e f b : ℕ) → b < 2 ^ 8
    → misfits (x * 2 ^ 8 + b) (low * 2 ^ 8 + 0x7F) (high * 2 ^ 8 + 0x80) (c * 2 ^ 8 + 0x50) (d * 2 ^ 8 + 0x46) (e * 2 ^ 8 + 0x1F) (f * 2 ^ 8 + 0x19)
    ≡ misfits x low high c d e f * 2 ^ 8 + misfit b
misfits_step x low high c d e f b h =
    let u = bit_and b 0x7F in
    let us = bit_and x low in
    let sum : (m k : ℕ) → us * 2 ^ 8 + u + (m * 2 ^ 8 + k) ≡ (us + m) * 2 ^ 8 + (u + k) = λ m k. omega arith in
    let small : (k : ℕ) → k < 0x80 → u + k < 2 ^ 8 = λ k l. omega (arith, and_le_r b 0x7F) in
    let c' = small 0x50 (omega arith) in
    let d' = small 0x46 (omega arith) in
    let e' = small 0x1F (omega arith) in
    let f' = small 0x19 (omega arith) in
    let two = bit_xor (u + 0x50) (u + 0x46) in
    let two' = xor_lt 8 (u + 0x50) (u + 0x46) c' d' in
    let twos = bit_xor (us + c) (us + d) in
    let three = bit_xor two (u + 0x1F) in
    let three' = xor_lt 8 two (u + 0x1F) two' e' in
    let threes = bit_xor twos (us + e) in
    let four = bit_xor three (u + 0x19) in
    let four' = xor_lt 8 three (u + 0x19) three' f' in
    let fours = bit_xor threes (us + f) in
    let top = bit_xor four 0x80 in
    let top' = xor_lt 8 four 0x80 four' (omega arith) in
    let tops = bit_xor fours high in
    rw (
      and_block 8 x low b 0x7F h (omega arith),
      sum c 0x50,
      sum d 0x46,
      sum e 0x1F,
      sum f 0x19,
      xor_block 8 (us + c) (us + d) (u + 0x50) (u + 0x46) c' d',
      xor_block 8 twos (us + e) two (u + 0x1F) two' e',
      xor_block 8 threes (us + f) three (u + 0x19) three' f',
      xor_block 8 fours high four 0x80 four' (omega arith),
      or_block 8 tops x top b top' h,
      and_block 8 (bit_or tops x) high (bit_or top b) 0x80 (or_lt 8 top b top' h) (omega arith),
    )

pub misfits_are : (l : List ℕ) → Bytes l
    → misfits (number l) (same (length l) 0x7F) (same (length l) 0x80) (same (length l) 0x50) (same (length l) 0x46) (same (length l) 0x1F) (same (length l) 0x19)
    ≡ each misfit l
misfits_are [] h = refl
misfits_are (b ∷ l) h =
    let n = length l in
    misfits_step (number l) (same n 0x7F) (same n 0x80) (same n 0x50) (same n 0x46) (same n 0x1F) (same n 0x19) b h.0
    ∙ ap (λ (x : ℕ). x * 2 ^ 8 + misfit b) (misfits_are l h.1)

-- ---- each digit's value: a letter's low half, and nine more

abbrev pub values : ℕ → ℕ → ℕ → ℕ
values x low letter = bit_and x low + bit_and x letter / 64 * 9

abbrev pub value : ℕ → ℕ
value b = values b 0x0F 0x40

whole : (b : ℕ) → b < 2 ^ 8 → bit_and b 0x40 % 64 ≡ 0
unfolding every
whole b h = eqb-true _ _ (every_at (λ k. eqb (bit_and k 0x40 % 64) 0) 256 refl b h)

values_both : (l : List ℕ) → Bytes l
    → (bit_and (number l) (same (length l) 0x40) % 64 ≡ 0) × (values (number l) (same (length l) 0x0F) (same (length l) 0x40) ≡ each value l)
values_both [] h = (refl, refl)
values_both (b ∷ l) h =
    let n = length l in
    let x = number l in
    let s = values_both l h.1 in
    let w = whole b h.0 in
    let p = and_block 8 x (same n 0x40) b 0x40 h.0 (omega arith) in
    let q = and_block 8 x (same n 0x0F) b 0x0F h.0 (omega arith) in
    (omega (arith, p, w, s.0), omega (arith, p, q, w, s.0, s.1))

pub values_are : (l : List ℕ) → Bytes l → values (number l) (same (length l) 0x0F) (same (length l) 0x40) ≡ each value l
values_are l h = (values_both l h).1

-- ---- one byte, each of them tried

abbrev alike : Option ℕ → Option ℕ → Bool
alike None None = true
alike None (Some y) = false
alike (Some x) None = false
alike (Some x) (Some y) = eqb x y

alike_is : (x y : Option ℕ) → alike x y ≡ true → x ≡ y
alike_is None None t = refl
alike_is None (Some y) t = let z : ◌≡◌ {A = Bool} false true = t in cc
alike_is (Some x) None t = let z : ◌≡◌ {A = Bool} false true = t in cc
alike_is (Some x) (Some y) t = ap Some (eqb-true x y t)

digit_is : (b : ℕ) → b < 2 ^ 8 → hex_digit b ≡ cond (eqb (misfit b) 0) (Some (value b)) None
unfolding every hex_digit decimal_digit
digit_is b h = alike_is _ _ (every_at (λ k. alike (hex_digit k) (cond (eqb (misfit k) 0) (Some (value k)) None)) 256 refl b h)

value_small : (b : ℕ) → b < 2 ^ 8 → misfit b ≡ 0 → value b < 16
unfolding every
value_small b h e =
    let t : cond (eqb (misfit b) 0) (ltb (value b) 16) true ≡ true = every_at (λ k. cond (eqb (misfit k) 0) (ltb (value k) 16) true) 256 refl b h in
    ltb-true (value b) 16 (rw (eq-eqb (misfit b) 0 e) at t)

-- ---- all digits of a list

abbrev pub Small : List ℕ → Type 0
Small [] = Unit
Small (b ∷ l) = (value b < 16) × Small l

pub all_small : (l : List ℕ) → Bytes l → each misfit l ≡ 0 → Small l
all_small [] h e = tt
all_small (b ∷ l) h e = (value_small b h.0 (omega arith), all_small l h.1 (omega arith))

each_small : (l : List ℕ) → Small l → each value l ≤ same (length l) 0x0F
each_small [] h = omega arith
each_small (b ∷ l) h = omega (arith, h.0, each_small l h.1)

-- what digits after those of v stand for
abbrev pub follow : ℕ → List ℕ → ℕ
follow v [] = v
follow v (b ∷ l) = follow (16 * v + value b) l

pub digits_all : (l : List ℕ) (v : ℕ) → Bytes l → each misfit l ≡ 0 → hex_from v l ≡ Some (follow v l)
unfolding hex_from
digits_all [] v h e = refl
digits_all (b ∷ l) v h e =
    let m : misfit b ≡ 0 = omega arith in
    let d : hex_digit b ≡ Some (value b) = digit_is b h.0 ∙ rw (eq-eqb (misfit b) 0 m) in
    rw d (digits_all l (16 * v + value b) h.1 (omega arith))

pub digits_not : (l : List ℕ) (v : ℕ) → Bytes l → (each misfit l ≡ 0 → ⊥) → hex_from v l ≡ None
unfolding hex_from
digits_not [] v h e = absurd (e refl)
digits_not (b ∷ l) v h e =
    by_cases (eqb (misfit b) 0)
    (λ t.
    let d : hex_digit b ≡ Some (value b) = digit_is b h.0 ∙ rw t in
    let m : misfit b ≡ 0 = eqb-true (misfit b) 0 t in
    rw d (digits_not l (16 * v + value b) h.1 (λ z. e (omega arith))))
    (λ t. let d : hex_digit b ≡ None = digit_is b h.0 ∙ rw t in rw d)

-- ---- eight values below 16 packed, two to a byte, the first highest

abbrev pub packed : ℕ → ℕ
packed p = p % 256 * 16777216 + p / 65536 % 256 * 65536 + p / 4294967296 % 256 * 256 + p / 281474976710656 % 256

two_bytes : (p x y s : ℕ) → x < 256 → y < 256 → p ≡ x + 256 * y + 65536 * s → (p % 256 ≡ x) × (p / 65536 ≡ s)
two_bytes p x y s hx hy e = (omega arith, omega arith)

two_down : (p : ℕ) → p / 4294967296 ≡ p / 65536 / 65536
two_down p = omega arith

three_down : (p : ℕ) → p / 281474976710656 ≡ p / 65536 / 65536 / 65536
three_down p = omega arith

pub packed_is : (a b c d e f g h n : ℕ) → a < 16 → b < 16 → c < 16 → d < 16 → e < 16 → f < 16 → g < 16 → h < 16
    → n ≡ a + 256 * (b + 256 * (c + 256 * (d + 256 * (e + 256 * (f + 256 * (g + 256 * h))))))
    → packed (n * 16 + n / 256) ≡ 16 * (16 * (16 * (16 * (16 * (16 * (16 * (16 * 0 + a) + b) + c) + d) + e) + f) + g) + h
packed_is a b c d e f g h n ha hb hc hd he hf hg hh i =
    let q : n / 256 ≡ b + 256 * (c + 256 * (d + 256 * (e + 256 * (f + 256 * (g + 256 * h))))) = omega arith in
    let p = n * 16 + n / 256 in
    let last = 16 * g + h + 256 * (16 * h) in
    let third = 16 * e + f + 256 * (16 * f + g) + 65536 * last in
    let second = 16 * c + d + 256 * (16 * d + e) + 65536 * third in
    let ab = two_bytes p (16 * a + b) (16 * b + c) second (omega arith) (omega arith) (omega arith) in
    let cd = two_bytes second (16 * c + d) (16 * d + e) third (omega arith) (omega arith) refl in
    let ef = two_bytes third (16 * e + f) (16 * f + g) last (omega arith) (omega arith) refl in
    let gh : last % 256 ≡ 16 * g + h = omega arith in
    rw (two_down p, three_down p, ab.0, ab.1, cd.0, cd.1, ef.0, ef.1, gh) (omega arith)

-- ---- the eight bytes of a number
module _ (x : ℕ) (room : x < 2 ^ 64) where
  abbrev l : List ℕ
  l = bytes_in 8 x

  abbrev wrong : ℕ
  wrong = misfits x 0x7F7F7F7F7F7F7F7F 0x8080808080808080 0x5050505050505050 0x4646464646464646 0x1F1F1F1F1F1F1F1F 0x1919191919191919

  abbrev n : ℕ
  n = values x 0x0F0F0F0F0F0F0F0F 0x4040404040404040

  bytes : Bytes l
  bytes = (eight_are l x room refl).0

  x_is : x ≡ number l
  x_is = (eight_are l x room refl).1

  wrong_is : wrong ≡ each misfit l
  wrong_is = ap (λ (y : ℕ). misfits y 0x7F7F7F7F7F7F7F7F 0x8080808080808080 0x5050505050505050 0x4646464646464646 0x1F1F1F1F1F1F1F1F 0x1919191919191919) x_is ∙ misfits_are l bytes

  n_is : n ≡ each value l
  n_is = ap (λ (y : ℕ). values y 0x0F0F0F0F0F0F0F0F 0x4040404040404040) x_is ∙ values_are l bytes

  small : wrong ≡ 0 → Small l
  small e = all_small l bytes (sym wrong_is ∙ e)

  pub values_fit : wrong ≡ 0 → n ≤ 0x0F0F0F0F0F0F0F0F
  values_fit e = rw n_is (each_small l (small e))

  pub digits_some : wrong ≡ 0 → hex_from 0 l ≡ Some (packed (n * 16 + n / 256))
  digits_some e =
      let s = small e in
      let v : (i : ℕ) → ℕ = λ i. value (get_or l i 0) in
      let r = packed_is (v 0) (v 1) (v 2) (v 3) (v 4) (v 5) (v 6) (v 7) n s.0 s.1.0 s.1.1.0 s.1.1.1.0 s.1.1.1.1.0 s.1.1.1.1.1.0 s.1.1.1.1.1.1.0 s.1.1.1.1.1.1.1.0 (n_is ∙ omega arith) in
      digits_all l 0 bytes (sym wrong_is ∙ e) ∙ ap Some (sym r)

  pub digits_none : (wrong ≡ 0 → ⊥) → hex_from 0 l ≡ None
  digits_none e = digits_not l 0 bytes (λ t. e (wrong_is ∙ t))
