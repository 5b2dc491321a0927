-- The search for the next enabled bank: by the zeros below the lowest set digit of what is left of the enable bits, which is then cleared.
use Rattle.std.proofs.Common.{◌≡◌, ℕ, zero, suc, ◌+◌, ◌-◌, ◌*◌, ◌/◌, ◌%◌, ◌^◌, ◌<◌, ◌≤◌, true, false, eqb, ltb, sym, refl, ap, ◌∙◌, ap₂, mul_assoc, zero-add, arith, pow_pos, pow-add, shr-shr, ltb-false, ltb-true, eqb-true}
use native.Mathlib.Nat.{mod_self, zero-div}
use lib.Bits.{bit_and, and_block, and_le_r, and_mask, and_self, shifted_even}
use lib.Count.{count_trailing_zeros}
use lib.Pow.{shl-shr, split, mod-pow-add}
use borrow.Author.Tests.{eqb-false}
use Rattle.basics.specs.Range.{first}
use Rattle.basics.proofs.RangeLaws.{by_cases, contra, first_passes, first_before, first_is}
use Rattle.basics.proofs.Zeros.{is_set, trailing_first}

-- ---- the lowest set digit t of x is cleared
zeros_below : (x t : ℕ) → ((i : ℕ) → i < t → is_set x i ≡ false) → x % 2 ^ t ≡ 0
zeros_below x zero h = omega arith
zeros_below x (suc t) h =
    let z : x / 2 ^ t % 2 ≡ 0 = omega (arith, eqb-false (x / 2 ^ t % 2) 1 (h t (omega arith))) in
    let e : suc t ≡ 1 + t = omega arith in
    let g = zeros_below x t (λ i l. h i (omega arith)) in
    rw e (mod-pow-add x 1 t ∙ rw (z, g) (omega arith))

module _ (x t : ℕ) (h : (i : ℕ) → i < t → is_set x i ≡ false) (on : is_set x t ≡ true) where
  abbrev above : ℕ
  above = x / 2 ^ (1 + t)

  lowest_digits : x % 2 ^ (1 + t) ≡ 2 ^ t
  lowest_digits =
      let z : x / 2 ^ t % 2 ≡ 1 = eqb-true (x / 2 ^ t % 2) 1 on in
      mod-pow-add x 1 t ∙ rw (z, zeros_below x t h) (omega arith)

  cleared : bit_and x (x - 1) ≡ above * 2 ^ (1 + t)
  cleared =
      let p : x ≡ above * 2 ^ (1 + t) + 2 ^ t = omega (arith, split x (1 + t), lowest_digits) in
      let q : x - 1 ≡ above * 2 ^ (1 + t) + (2 ^ t - 1) = omega (arith, p, pow_pos t) in
      let two : 2 ^ (1 + t) ≡ 2 * 2 ^ t = pow-add 2 1 t in
      ap₂ bit_and p q
      ∙ and_block (1 + t) above above (2 ^ t) (2 ^ t - 1) (omega (arith, two, pow_pos t)) (omega (arith, two, pow_pos t))
      ∙ rw (and_self above, and_mask (2 ^ t) t, mod_self (2 ^ t)) (omega arith)

  cleared_below : (j : ℕ) → j ≤ t → is_set (bit_and x (x - 1)) j ≡ false
  cleared_below j l =
      let d = t - j in
      let k : 1 + t ≡ suc d + j = omega arith in
      let p : above * 2 ^ (1 + t) ≡ above * 2 ^ suc d * 2 ^ j = ap (λ (i : ℕ). above * 2 ^ i) k ∙ ap (λ (i : ℕ). above * i) (pow-add 2 (suc d) j) ∙ sym (mul_assoc above (2 ^ suc d) (2 ^ j)) in
      rw (cleared, p, shl-shr (above * 2 ^ suc d) j, shifted_even above d)

  cleared_above : (j : ℕ) → t < j → is_set (bit_and x (x - 1)) j ≡ is_set x j
  cleared_above j l =
      let d = j - (1 + t) in
      let k : 1 + t + d ≡ j = omega arith in
      let p = shr-shr (above * 2 ^ (1 + t)) (1 + t) d in
      let q = shr-shr x (1 + t) d in
      ap (λ (i : ℕ). eqb (i % 2) 1)
      (ap (λ (i : ℕ). i / 2 ^ j) cleared
      ∙ ap (λ (i : ℕ). above * 2 ^ (1 + t) / 2 ^ i) (sym k)
      ∙ sym p
      ∙ ap (λ (i : ℕ). i / 2 ^ d) (shl-shr above (1 + t))
      ∙ q
      ∙ ap (λ (i : ℕ). x / 2 ^ i) k)

-- ---- what is left of the enable bits where the banks below n are passed
pub record Rest (e rest n : ℕ) : Type 0 where
  pub small : rest < 256
  pub same : (j : ℕ) → n ≤ j → j < 8 → is_set rest j ≡ is_set e j
  pub none : (j : ℕ) → j < n → is_set rest j ≡ false

pub rest_whole : (e : ℕ) → e < 256 → Rest e e 0
rest_whole e h = record { small = h; same = λ j _ l. refl; none = λ j l. absurd (omega arith) }

module _ (e rest n : ℕ) (r : Rest e rest n) where
  -- nothing is left
  pub rest_none : rest ≡ 0 → (j : ℕ) → n ≤ j → j < 8 → is_set e j ≡ false
  rest_none z j l k =
      let d : rest / 2 ^ j ≡ 0 = rw z (zero-div (2 ^ j)) in
      sym (r.same j l k) ∙ rw d

  module _ (z : (rest ≡ 0) → ⊥) where
    abbrev lowest : ℕ
    lowest = first (is_set rest) 8 0

    -- a number below 256 that is not 0 has a digit among the lowest eight
    lowest_below : lowest < 8
    lowest_below =
        by_cases (ltb lowest 8) (λ t. ltb-true lowest 8 t)
        (λ t.
        let q = zeros_below rest 8 (λ i l. first_before (is_set rest) 8 0 i (omega arith) (omega (arith, ltb-false lowest 8 t))) in
        absurd (z (omega (arith, q, r.small))))

    lowest_set : is_set rest lowest ≡ true
    lowest_set = first_passes (is_set rest) 8 0 lowest_below

    lowest_is : count_trailing_zeros 32 rest ≡ lowest
    unfolding first
    lowest_is =
        let q = first_is (is_set rest) 32 0 lowest (omega arith) (omega (arith, lowest_below)) lowest_set (λ j l x. first_before (is_set rest) 8 0 j l x) in
        let w : rest / 2 ^ 0 ≡ rest = omega arith in
        (rw (w, zero-add (count_trailing_zeros 32 rest)) at (sym (trailing_first 32 rest 0))) ∙ q

    -- the next enabled bank
    abbrev next : ℕ
    next = count_trailing_zeros 32 rest

    pub next_below : next < 8
    next_below = omega (arith, lowest_is, lowest_below)

    set_here : is_set rest next ≡ true
    set_here = rw lowest_is lowest_set

    unset_below : (i : ℕ) → i < next → is_set rest i ≡ false
    unset_below i l = first_before (is_set rest) 8 0 i (omega arith) (omega (arith, lowest_is))

    pub next_from : n ≤ next
    next_from =
        by_cases (ltb next n) (λ t. contra set_here (r.none next (ltb-true next n t)))
        (λ t. ltb-false next n t)

    pub next_on : is_set e next ≡ true
    next_on = sym (r.same next next_from next_below) ∙ set_here

    pub next_off : (j : ℕ) → n ≤ j → j < next → is_set e j ≡ false
    next_off j l k = sym (r.same j l (omega (arith, next_below))) ∙ unset_below j k

    pub rest_falls : bit_and rest (rest - 1) < rest
    rest_falls =
        by_cases (ltb 0 rest) (λ t. omega (arith, and_le_r rest (rest - 1), ltb-true 0 rest t))
        (λ t. absurd (z (omega (arith, ltb-false 0 rest t))))

    -- its bit is cleared
    pub rest_less : Rest e (bit_and rest (rest - 1)) (next + 1)
    rest_less =
        record {
          small = omega (arith, rest_falls, r.small);
          same = λ j x k. cleared_above rest next unset_below set_here j (omega arith) ∙ r.same j (omega (arith, next_from)) k;
          none = λ j x. cleared_below rest next unset_below set_here j (omega arith);
        }
