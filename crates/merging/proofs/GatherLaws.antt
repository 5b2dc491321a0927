-- The bytes of a write, gathered into a number: the first of them, and those that are left once n are shifted out, are bytes of the number again
-- (bytes_take and bytes_drop of AcrossLaws of eight_bytes).
use mathlib.Core.Path.{◌≡◌, refl, sym, ap, ap₂, ◌∙◌, subst}
use mathlib.Core.Bool.{cond}
use mathlib.Core.List.{List, ◌∷◌, ◌++◌, append-nil}
use Prim.Native.Nat.{ℕ, zero, suc, ◌+◌, ◌-◌, ◌*◌, ◌/◌, ◌%◌, ◌^◌, ◌<◌, ◌≤◌}
use native.Mathlib.Nat.{add_comm}
use native.Mathlib.Numerals.{add-one}
use native.Mathlib.Omega.{arith}
use lib.Arith.{digits_lt}
use lib.Bits.{bit_or, or_shifted_r}
use lib.Dec.{leb}
use lib.ListN.{length, get_or, take, drop, replicate, length-drop}
use lib.Pow.{pow-add, shl_exact}
use lib.Seq.{take_all, take_at, take-length, take-suc, drop-append-le}
use borrow.Author.Tests.{le-leb, lt-leb}
use Rattle.eight_bytes.specs.CodeNumber.{bytes_in, eight_at}
use Rattle.eight_bytes.proofs.AcrossLaws.{bytes_append, bytes_drop, bytes_take}
use Rattle.eight_bytes.proofs.ByteLaws.{eight_some}
use Rattle.ecc.specs.Doubleword.{bytes_of_number}

-- what `gathered` ensures
abbrev pub Gathered : ℕ → List ℕ → Type 0
Gathered x bs = bytes_of_number x ≡ cond (leb (length bs) 8) (bs ++ replicate (8 - length bs) 0) (replicate 8 0)

-- ---- how they are gathered

-- the number of the first i bytes
abbrev pub Begun : List ℕ → ℕ → ℕ → Type 0
Begun bs i x = (x < 2 ^ (8 * i)) × (bytes_in i x ≡ take i bs)

-- the next byte, above those that are there
pub begun_more : (bs : List ℕ) (i x : ℕ) → i < length bs → i < 8 → get_or bs i 0 < 256 → Begun bs i x
    → Begun bs (i + 1) (bit_or x (get_or bs i 0 * 2 ^ (8 * i) % 2 ^ 64))
begun_more bs i x h k small g =
    let b : ℕ = get_or bs i 0 in
    let p : ℕ = 2 ^ (8 * i) in
    let sum : bit_or x (b * p % 2 ^ 64) ≡ b * p + x = ap (bit_or x) (shl_exact {a = b} 8 (8 * i) 64 small (omega arith)) ∙ or_shifted_r b (8 * i) x g.0 in
    let more : 8 + 8 * i ≡ 8 * (i + 1) = omega arith in
    let fits : b * p + x < 2 ^ (8 * (i + 1)) = subst (λ (z : ℕ). b * p + x < z) (sym (pow-add 2 8 (8 * i)) ∙ ap (λ (j : ℕ). 2 ^ j) more) (digits_lt small g.0) in
    let one : i + 1 - i ≡ 1 = omega arith in
    let last : b % 256 ≡ b = omega arith in
    rw sum (
      fits,
      ap (bytes_in (i + 1)) (add_comm (b * p) x) ∙ bytes_append i (i + 1) x b (omega arith) g.0
          ∙ ap₂ (λ (l : List ℕ) (n : ℕ). l ++ bytes_in n b) g.1 one
          ∙ rw (last, add-one) (sym (take-suc bs i 0 h)),
    )

no_bytes : (n : ℕ) → bytes_in n 0 ≡ replicate n 0
no_bytes zero = refl
no_bytes (suc n) = ap (λ (l : List ℕ). 0 ∷ l) (no_bytes n)

-- all of them
pub begun_all : (bs : List ℕ) (x : ℕ) → length bs ≤ 8 → Begun bs (length bs) x → Gathered x bs
unfolding bytes_of_number
begun_all bs x few g =
    let n : ℕ = length bs in
    let same : x ≡ x + 0 * 2 ^ (8 * n) = omega arith in
    rw (le-leb n 8 few)
    (ap (bytes_in 8) same ∙ bytes_append n 8 x 0 few g.0
    ∙ ap₂ (λ (l m : List ℕ). l ++ m) (g.1 ∙ take-length bs) (no_bytes (8 - n)))

-- eight at once
pub gathered_eight : (bs : List ℕ) (x : ℕ) → length bs ≡ 8 → bytes_in 8 x ≡ eight_at bs 0 → Gathered x bs
unfolding bytes_of_number
gathered_eight bs x n e =
    rw n (e ∙ eight_some bs 0 (omega arith) ∙ take_all 8 bs (omega arith) ∙ sym (append-nil bs))

-- too many
pub gathered_none : (bs : List ℕ) → 8 < length bs → Gathered 0 bs
unfolding bytes_of_number
gathered_none bs h = rw (lt-leb (length bs) 8 h)

-- ---- what a caller knows of the number

module _ (x : ℕ) (bs : List ℕ) (few : length bs ≤ 8) (g : Gathered x bs) where
  -- the bytes, and zeros after them
  pub gathered_all : bytes_of_number x ≡ bs ++ replicate (8 - length bs) 0
  gathered_all = g ∙ rw (le-leb (length bs) 8 few)

  pub gathered_first : take (length bs) (bytes_of_number x) ≡ bs
  gathered_first = rw gathered_all (take_at bs (replicate (8 - length bs) 0) (length bs) refl)

  -- what is left once n are shifted out
  pub gathered_rest : (n : ℕ) → n ≤ length bs → n < 8 → take (length bs - n) (bytes_of_number (x / 2 ^ (8 * n))) ≡ drop n bs
  unfolding bytes_of_number
  gathered_rest n h l =
      let m : ℕ = length bs - n in
      let y : ℕ = x / 2 ^ (8 * n) in
      let zeros : List ℕ = replicate (8 - length bs) 0 in
      bytes_take m 8 y (omega arith) ∙ sym (bytes_take m (8 - n) y (omega arith))
      ∙ ap (take m) (sym (bytes_drop n 8 x (omega arith)) ∙ ap (drop n) gathered_all ∙ drop-append-le n bs zeros h)
      ∙ take_at (drop n bs) zeros m (length-drop n bs)
