-- Numbers within N in a row are told apart by their remainders mod N.
use mathlib.Core.Path.{◌≡◌, sym, ap, ◌∙◌}
use mathlib.Core.Bool.{cond}
use Prim.Native.Nat.{ℕ, ◌+◌, ◌*◌, ◌/◌, ◌%◌, ◌≤◌, ◌<◌}
use native.Mathlib.Nat.{div-add-mod', mul-le-mul_right, add-mul, one-mul, mod-lt}
use native.Mathlib.Omega.{arith}
use lib.Arith.{digits_mod}
use lib.Dec.{ltb}
use borrow.Author.Tests.{ltb-true, ltb-false}
use Rattle.basics.proofs.RangeLaws.{by_cases}

-- a smaller quotient puts a whole N between
apart : (N d e : ℕ) → d % N ≡ e % N → d / N < e / N → d + N ≤ e
apart N d e m h =
    let p : (d / N + 1) * N ≤ e / N * N = mul-le-mul_right N (omega arith) in
    let q : (d / N + 1) * N ≡ d / N * N + N = add-mul (d / N) 1 N ∙ ap (λ (x : ℕ). d / N * N + x) (one-mul N) in
    omega (arith, div-add-mod' d N, div-add-mod' e N)

-- two of N numbers in a row with the same remainder are equal
pub same_remainder : (N s d e : ℕ) → s ≤ d → d < s + N → s ≤ e → e < s + N → d % N ≡ e % N → d ≡ e
same_remainder N s d e hd kd he ke m =
    by_cases (ltb (d / N) (e / N)) (λ t. absurd (omega (arith, apart N d e m (ltb-true (d / N) (e / N) t))))
    (λ t.
    by_cases (ltb (e / N) (d / N)) (λ u. absurd (omega (arith, apart N e d (sym m) (ltb-true (e / N) (d / N) u))))
    (λ u.
    let q : d / N ≡ e / N = omega (arith, ltb-false (d / N) (e / N) t, ltb-false (e / N) (d / N) u) in
    let r : d / N * N ≡ e / N * N = ap (λ (x : ℕ). x * N) q in
    omega (arith, div-add-mod' d N, div-add-mod' e N)))

-- the first number from s on with the remainder w
abbrev pub next : ℕ → ℕ → ℕ → ℕ
next s N w = cond (ltb (s / N * N + w) s) (s / N * N + w + N) (s / N * N + w)

-- d is among the N numbers from s on and has the remainder w
pub record Next (s N w d : ℕ) : Type 0 where
  pub low : s ≤ d
  pub high : d < s + N
  pub rest : d % N ≡ w

pub next_is : (s N w : ℕ) → w < N → Next s N w (next s N w)
next_is s N w h =
    let q = s / N in
    let e = div-add-mod' s N in
    let k : s % N < N = mod-lt s (omega arith) in
    by_cases (ltb (q * N + w) s)
    (λ t.
    let l = ltb-true (q * N + w) s t in
    let p : q * N + w + N ≡ (q + 1) * N + w = omega (arith, add-mul q 1 N, one-mul N) in
    rw t (record { low = omega arith; high = omega arith; rest = rw p (digits_mod (q + 1) h) }))
    (λ t.
    let l = ltb-false (q * N + w) s t in
    rw t (record { low = omega arith; high = omega arith; rest = digits_mod q h }))
