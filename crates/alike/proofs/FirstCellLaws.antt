-- How a bank places the addresses of one megabyte: two banks place all of them alike exactly if they have the same number of column bits
-- and place the megabyte's first doubleword in the same row.
use mathlib.Core.Path.{◌≡◌, refl, sym, ap, ◌∙◌}
use mathlib.Core.Bool.{true}
use Prim.Native.Nat.{ℕ, ◌+◌, ◌-◌, ◌*◌, ◌/◌, ◌%◌, ◌^◌, ◌<◌}
use native.Mathlib.Nat.{add-zero, add_comm, mul_assoc, add-mul-mod_self_right, mod-eq_of_lt, mod_self}
use native.Mathlib.Omega.{arith}
use lib.Dec.{ltb, eqb}
use lib.Pow.{pow-add, pow_pos, pow-lt, shl-shr}
use borrow.Author.Tests.{ltb-true, ltb-false, eqb-true, eq-eqb}
use Rattle.basics.proofs.Bools.{and_left, and_right}
use Rattle.basics.proofs.RangeLaws.{by_cases}
use Rattle.banks.specs.declared.Bank.{Bank}
use Rattle.banks.specs.Setup.{Bounded}
use Rattle.banks.specs.Map.{cell_in_bank, row_of, column_of}
use Rattle.banks.proofs.MegabyteLaws.{bounded_large, reach, cell_by_megabyte}
use Rattle.alike.specs.Alike.{same_place}
use Rattle.alike.specs.CodeMegabyte.{same_part}

module _ (b : Bank) (d : Bounded b) where
  -- a number of megabytes, as a number of rows
  by_rows : (q : ℕ) → q * 2 ^ 17 ≡ q * 2 ^ (17 - b.column_bits) * 2 ^ b.column_bits
  by_rows q =
      let k = b.column_bits in
      let e : 17 ≡ (17 - k) + k = omega arith in
      ap (λ (x : ℕ). q * x) (ap (λ (x : ℕ). 2 ^ x) e ∙ pow-add 2 (17 - k) k) ∙ sym (mul_assoc q (2 ^ (17 - k)) (2 ^ k))

  first_row : (m : ℕ) → (row_of b (m * 2 ^ 20)).0 ≡ m % reach b * 2 ^ (17 - b.column_bits)
  unfolding row_of
  first_row m =
      let k = b.column_bits in
      let q = m % reach b in
      let e1 : m * 2 ^ 20 / 2 ^ 20 ≡ m = omega arith in
      let e2 : m * 2 ^ 20 / 8 % 2 ^ 17 ≡ 0 = omega arith in
      let w : cell_in_bank b (m * 2 ^ 20) ≡ q * 2 ^ 17 + 0 = rw (e1, e2) at (cell_by_megabyte b (bounded_large b d) (m * 2 ^ 20)) in
      ap (λ (x : ℕ). x / 2 ^ k) (w ∙ add-zero (q * 2 ^ 17) ∙ by_rows q) ∙ shl-shr (q * 2 ^ (17 - k)) k

  -- the column does not depend on the megabyte
  column_is : (a : ℕ) → (column_of b a).0 ≡ a / 8 % 2 ^ 17 % 2 ^ b.column_bits
  unfolding column_of
  column_is a =
      let k = b.column_bits in
      let q = a / 2 ^ 20 % reach b in
      let u = a / 8 % 2 ^ 17 in
      let v : q * 2 ^ 17 + u ≡ u + q * 2 ^ (17 - k) * 2 ^ k = add_comm (q * 2 ^ 17) u ∙ ap (λ (x : ℕ). u + x) (by_rows q) in
      ap (λ (x : ℕ). x % 2 ^ k) (cell_by_megabyte b (bounded_large b d) a ∙ v) ∙ add-mul-mod_self_right u (q * 2 ^ (17 - k)) (2 ^ k)

shl_injective : (k q q' : ℕ) → q * 2 ^ k ≡ q' * 2 ^ k → q ≡ q'
shl_injective k q q' e = sym (shl-shr q k) ∙ ap (λ (x : ℕ). x / 2 ^ k) e ∙ shl-shr q' k

-- what `same_part` says
pub record Part (m : ℕ) (b c : Bank) : Type 0 where
  pub columns : b.column_bits ≡ c.column_bits
  pub row : (row_of b (m * 2 ^ 20)).0 ≡ (row_of c (m * 2 ^ 20)).0

pub part : (m : ℕ) (b c : Bank) → same_part m b c ≡ true → Part m b c
unfolding same_part
part m b c h =
    let i = (row_of b (m * 2 ^ 20)).0 in
    let j = (row_of c (m * 2 ^ 20)).0 in
    let x = eqb b.column_bits c.column_bits in
    record { columns = eqb-true b.column_bits c.column_bits (and_left x (eqb i j) h); row = eqb-true i j (and_right x (eqb i j) h) }

pub part_same : (m : ℕ) (b c : Bank) → Part m b c → same_part m b c ≡ true
unfolding same_part
part_same m b c h =
    simp (eq-eqb b.column_bits c.column_bits h.columns, eq-eqb (row_of b (m * 2 ^ 20)).0 (row_of c (m * 2 ^ 20)).0 h.row)

-- what `same_place` says
pub record Placed (a : ℕ) (b c : Bank) : Type 0 where
  pub row : (row_of b a).0 ≡ (row_of c a).0
  pub column : (column_of b a).0 ≡ (column_of c a).0

pub placed_same : (a : ℕ) (b c : Bank) → Placed a b c → same_place a b c ≡ true
unfolding same_place
placed_same a b c h = simp (eq-eqb (row_of b a).0 (row_of c a).0 h.row, eq-eqb (column_of b a).0 (column_of c a).0 h.column)

pub placed : (a : ℕ) (b c : Bank) → same_place a b c ≡ true → Placed a b c
unfolding same_place
placed a b c h =
    let x = eqb (row_of b a).0 (row_of c a).0 in
    let y = eqb (column_of b a).0 (column_of c a).0 in
    record {
      row = eqb-true (row_of b a).0 (row_of c a).0 (and_left x y h);
      column = eqb-true (column_of b a).0 (column_of c a).0 (and_right x y h);
    }

-- with fewer column bits in one bank, some doubleword of a megabyte has different columns
fewer :
    (b c : Bank)
    → Bounded b
    → Bounded c
    → (m : ℕ)
    → b.column_bits < c.column_bits
    → ((t : ℕ) → t < 2 ^ 17 → (column_of b (m * 2 ^ 20 + t * 8)).0 ≡ (column_of c (m * 2 ^ 20 + t * 8)).0)
    → ⊥
fewer b c d e m l h =
    let k = b.column_bits in
    let j = c.column_bits in
    let t = 2 ^ k in
    let t17 : t < 2 ^ 17 = pow-lt {i = k} {j = 17} (omega arith) in
    let a = m * 2 ^ 20 + t * 8 in
    let u : a / 8 % 2 ^ 17 ≡ t = omega arith in
    let v : t % 2 ^ k ≡ t % 2 ^ j = rw u at (sym (column_is b d a) ∙ h t t17 ∙ column_is c e a) in
    let z : t % 2 ^ k ≡ 0 = mod_self (2 ^ k) in
    let y : t % 2 ^ j ≡ t = mod-eq_of_lt (pow-lt {i = k} {j = j} l) in
    omega (arith, pow_pos k)

module _ (b c : Bank) (d : Bounded b) (e : Bounded c) where
  -- if the columns are the same, the rows of a megabyte are the same exactly if its remainders are
  pub row_reach : (m : ℕ) → Part m b c → m % reach b ≡ m % reach c
  row_reach m s =
      let k = b.column_bits in
      let r : m % reach b * 2 ^ (17 - k) ≡ m % reach c * 2 ^ (17 - k) =
      sym (first_row b d m) ∙ s.row ∙ first_row c e m ∙ ap (λ (x : ℕ). m % reach c * 2 ^ (17 - x)) (sym s.columns) in
      shl_injective (17 - k) (m % reach b) (m % reach c) r

  pub reach_row : (m : ℕ) → b.column_bits ≡ c.column_bits → m % reach b ≡ m % reach c → Part m b c
  reach_row m k r =
      record {
        columns = k;
        row = first_row b d m ∙ ap (λ (x : ℕ). x * 2 ^ (17 - b.column_bits)) r ∙ ap (λ (x : ℕ). m % reach c * 2 ^ (17 - x)) k ∙ sym (first_row c e m);
      }

  cell_in_bank_alike : (a : ℕ) → Part (a / 2 ^ 20) b c → cell_in_bank b a ≡ cell_in_bank c a
  cell_in_bank_alike a s =
      let q = row_reach (a / 2 ^ 20) s in
      cell_by_megabyte b (bounded_large b d) a ∙ ap (λ (x : ℕ). x * 2 ^ 17 + a / 8 % 2 ^ 17) q ∙ sym (cell_by_megabyte c (bounded_large c e) a)

  -- the test of a megabyte answers for each of its addresses
  pub part_place : (a : ℕ) → same_part (a / 2 ^ 20) b c ≡ true → same_place a b c ≡ true
  unfolding same_place row_of column_of
  part_place a h =
      let s = part (a / 2 ^ 20) b c h in
      let w = cell_in_bank_alike a s in
      let i = cell_in_bank c a / 2 ^ c.column_bits in
      let j = cell_in_bank c a % 2 ^ c.column_bits in
      simp (w, s.columns, eq-eqb i i refl, eq-eqb j j refl)

  -- and fails only if one of its doublewords is placed differently
  pub place_part : (m : ℕ) → ((t : ℕ) → t < 2 ^ 17 → same_place (m * 2 ^ 20 + t * 8) b c ≡ true) → same_part m b c ≡ true
  unfolding same_part
  place_part m h =
      let at : (t : ℕ) → t < 2 ^ 17 → Placed (m * 2 ^ 20 + t * 8) b c = λ t l. placed (m * 2 ^ 20 + t * 8) b c (h t l) in
      let z : m * 2 ^ 20 + 0 * 8 ≡ m * 2 ^ 20 = omega arith in
      let row : (row_of b (m * 2 ^ 20)).0 ≡ (row_of c (m * 2 ^ 20)).0 = rw z at (at 0 (omega arith)).row in
      let k = b.column_bits in
      let j = c.column_bits in
      let columns : k ≡ j =
      by_cases (ltb k j) (λ u. absurd (fewer b c d e m (ltb-true k j u) (λ t l. (at t l).column)))
      (λ u.
      by_cases (ltb j k) (λ v. absurd (fewer c b e d m (ltb-true j k v) (λ t l. sym (at t l).column)))
      (λ v. omega (arith, ltb-false k j u, ltb-false j k v))) in
      simp (eq-eqb k j columns, eq-eqb (row_of b (m * 2 ^ 20)).0 (row_of c (m * 2 ^ 20)).0 row)
