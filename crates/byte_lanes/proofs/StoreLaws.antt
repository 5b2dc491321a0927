-- Runs of eight bytes, each from where the one before it ends, and the bytes of a number that is shifted down.
use mathlib.Core.Path.{◌≡◌, refl, sym, ap, ◌∙◌}
use mathlib.Core.List.{List, [], ◌++◌, append_assoc, append-nil}
use Prim.Native.Nat.{ℕ, ◌+◌, ◌-◌, ◌*◌, ◌/◌, ◌^◌, ◌≤◌}
use native.Mathlib.Omega.{arith}
use lib.ListN.{length, take, drop, length-append, drop_of_length-le}
use lib.Seq.{take_at, drop_at, drop-drop}
use Rattle.eight_bytes.specs.CodeNumber.{bytes_in}
use Rattle.eight_bytes.proofs.AcrossLaws.{bytes_drop, bytes_take}
use Rattle.ecc.specs.Doubleword.{bytes_of_number}
use borrow.Rule.Slice.PartMut.{put_mid}

-- a list after one run more
stored_on : (l x b : List ℕ) (k : ℕ) → length x ≡ k → put_mid k 8 (x ++ drop k l) b ≡ (x ++ b) ++ drop (k + 8) l
stored_on l x b k n =
    rw (take_at x (drop k l) k n, drop_at x (drop k l) k n, drop-drop 8 k l) (rw append_assoc)

-- MEM-15: four doublewords fill a list of 32 bytes
pub four_stored : (l b₀ b₁ b₂ b₃ : List ℕ) → length b₀ ≡ 8 → length b₁ ≡ 8 → length b₂ ≡ 8 → length b₃ ≡ 8 → length l ≡ 32
    → put_mid 24 8 (put_mid 16 8 (put_mid 8 8 (b₀ ++ drop 8 l) b₁) b₂) b₃ ≡ b₀ ++ (b₁ ++ (b₂ ++ (b₃ ++ [])))
four_stored l b₀ b₁ b₂ b₃ h₀ h₁ h₂ h₃ h =
    let two : List ℕ = b₀ ++ b₁ in
    let three : List ℕ = two ++ b₂ in
    let n₁ : length two ≡ 16 = omega (arith, length-append b₀ b₁) in
    let n₂ : length three ≡ 24 = omega (arith, length-append two b₂) in
    ap (λ (m : List ℕ). put_mid 24 8 (put_mid 16 8 m b₂) b₃) (stored_on l b₀ b₁ 8 h₀)
    ∙ ap (λ (m : List ℕ). put_mid 24 8 m b₃) (stored_on l two b₂ 16 n₁)
    ∙ stored_on l three b₃ 24 n₂
    ∙ ap (λ (m : List ℕ). (three ++ b₃) ++ m) (drop_of_length-le l {i = 32} (omega arith))
    ∙ simp (append_assoc, append-nil)

-- the bytes of a number, eight of them, are those of a doubleword
pub eight_are : (x : ℕ) → bytes_in 8 x ≡ bytes_of_number x
unfolding bytes_of_number
eight_are x = refl

-- the lowest n bytes are those from byte o on
pub shifted_down : (x o n : ℕ) → o + n ≤ 8 → take n (bytes_of_number (x / 2 ^ (8 * o))) ≡ take n (drop o (bytes_of_number x))
shifted_down x o n h =
    let y : ℕ = x / 2 ^ (8 * o) in
    rw (← eight_are y, ← eight_are x)
    (bytes_take n 8 y (omega arith) ∙ sym (bytes_take n (8 - o) y (omega arith)) ∙ ap (take n) (sym (bytes_drop o 8 x (omega arith))))
