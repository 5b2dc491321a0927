-- The size of a bank from the length of its span, as a number of bits, and from its row code.
use Rattle.std.specs.Prelude.{Some, None, is_none}
use Rattle.std.proofs.Common.{◌≡◌, ℕ, zero, suc, ◌+◌, ◌-◌, ◌*◌, ◌/◌, ◌%◌, ◌^◌, ◌<◌, ◌≤◌, false, cond, ◌&&◌, eqb, ltb, leb, get_or, sym, refl, ap, ◌∙◌, arith, pow_mono, ltb-false, ltb-true, lt-ltb, eqb-true, le-leb, leb-false, leb-true}
use borrow.Author.Tests.{lt-leb}
use Rattle.basics.proofs.Bools.{and_left, and_right}
use Rattle.basics.proofs.RangeLaws.{by_cases, contra, first_at}
use Rattle.basics.proofs.Zeros.{greater_from, greater_holds, greater_least}
use Rattle.banks.specs.declared.Bank.{Bank}
use Rattle.banks.specs.Setup.{fewest_row_bits, most_row_bits, megabytes, row_bits_of, fits, column_limit, column_bits_of}
use Rattle.banks.specs.Judge.{faulty}
use Rattle.banks.specs.Map.{cells}
use Rattle.address_map.specs.declared.fields.Fields.{Fields}
use Rattle.address_map.specs.CodeFields.{code_by, longest_of, enabled_by}
use Rattle.address_map.specs.CodeSelection.{SizeBits, megabyte_bits, bits_unless_faulty}
use Rattle.banks.proofs.FieldLaws.{Decoded, rows_by_code, rows_by_length, limit_is, fits_in, columns_narrow, long_columns}
use Rattle.address_map.proofs.LongestLaws.{longest_most, faulty_is}
use Rattle.address_map.proofs.SetupLaws.{code_below}

-- the longest bank of row codes 0 to 2
longest_power : (code : ℕ) → code < 3 → longest_of code ≡ 2 ^ (2 * code + 1)
unfolding row_bits_of column_limit longest_of
longest_power zero h = refl
longest_power (suc zero) h = refl
longest_power (suc (suc zero)) h = refl
longest_power (suc (suc (suc k))) h = absurd (omega arith)

-- m is the least number of bits, and no less than the row code, that holds the span's megabytes less one
module _ (span code m : ℕ) (from : code ≤ m) (holds : span < 2 ^ m) (least : (k : ℕ) → span < 2 ^ k → code ≤ k → m ≤ k) where
  module _ (R : ℕ) (rows : fewest_row_bits + code ≤ R) where
    -- so many column bits are enough exactly from that length on
    fits_from : (c : ℕ) → 8 ≤ c → fits R (span + 1) c ≡ leb m (R + c - 17)
    fits_from c k =
        let j = R + c - 17 in
        fits_in R (span + 1) c (omega arith)
        ∙ by_cases (leb m j)
        (λ t.
        let p : 2 ^ m ≤ 2 ^ j = pow_mono (leb-true m j t) in
        le-leb (span + 1) (2 ^ j) (omega (arith, holds, p)) ∙ sym t)
        (λ t.
        let u : leb (span + 1) (2 ^ j) ≡ false = by_cases (leb (span + 1) (2 ^ j))
        (λ v.
        let q = least j (omega (arith, leb-true (span + 1) (2 ^ j) v)) (omega arith) in
        absurd (omega (arith, leb-false m j t)))
        (λ v. v) in
        u ∙ sym t)

    -- if there is room, rows and columns number 2 ^ (17 + m) doublewords
    columns_number : R ≤ fewest_row_bits + m → 17 + m ≤ R + column_limit R → 17 + m ≡ R + column_bits_of R (span + 1)
    unfolding column_bits_of
    columns_number few room =
        let c = 17 + m - R in
        let e = first_at (fits R (span + 1)) (column_limit R) 8 c (omega arith) (omega arith)
        (λ _. fits_from c (omega arith) ∙ le-leb m (R + c - 17) (omega arith))
        (λ j p q. fits_from j p ∙ lt-leb m (R + j - 17) (omega arith)) in
        rw e (omega arith)

    -- m tells the size of a span with R row bits and room
    size_at : row_bits_of code (span + 1) ≡ R → R ≤ fewest_row_bits + m → 17 + m ≤ R + column_limit R → SizeBits span code m
    size_at r few room = λ _. rw r (columns_number few room)

  -- row code 3, and more than 128 megabytes
  size_long : code ≡ 3 → 128 < span + 1 → span < 256 → SizeBits span code m
  unfolding column_limit
  size_long e l h =
      let many : 8 ≤ m = by_cases (ltb m 8)
      (λ t. let p : 2 ^ m ≤ 2 ^ 7 = pow_mono {j = 7} (omega (arith, ltb-true m 8 t)) in absurd (omega (arith, holds, p)))
      (λ t. ltb-false m 8 t) in
      let most : m ≤ 8 = least 8 h (omega arith) in
      size_at most_row_bits (omega arith) (rw e (rows_by_length (span + 1) l)) (omega arith) (omega arith)

  -- the row bits of the code alone
  size_short : (k : ℕ) → (128 < span + 1 → code ≡ 3 → ⊥) → code < 4 → span < 2 ^ k → code ≤ k → k ≤ 2 * code + 1 → SizeBits span code m
  size_short k short l h c r =
      let R = fewest_row_bits + code in
      size_at R (omega arith) (rows_by_code code (span + 1) short) (omega arith)
      (omega (arith, limit_is R (omega arith), least k h c))

  size_other : code < 3 → span < longest_of code → SizeBits span code m
  size_other l h = size_short (2 * code + 1) (λ _ e. omega arith) (omega arith) (rw (longest_power code l) at h) (omega arith) (omega arith)

  pub size_of : code < 4 → SizeBits span code m
  size_of l h =
      by_cases (ltb code 3) (λ t. size_other (ltb-true code 3 t) h h)
      (λ t.
      let e : code ≡ 3 = omega (arith, ltb-false code 3 t) in
      let most : span < 256 = omega (arith, longest_most code l, h) in
      by_cases (ltb 128 (span + 1))
      (λ u. size_long e (ltb-true 128 (span + 1) u) most h)
      (λ u. let v = ltb-false 128 (span + 1) u in size_short 7 (λ k _. omega (arith, k, v)) l (omega (arith, v)) (omega arith) (omega arith) h))

-- that number is the greater of the row code and the length of the span
pub size_is : (span code j : ℕ) → code < 4 → span < 2 ^ j → 2 ^ j ≤ 2 * span + 1 → SizeBits span code (cond (ltb j code) code j)
size_is span code j c h l =
    size_of span code (cond (ltb j code) code j) (greater_from span code j h l) (greater_holds span code j h l) (greater_least span code j h l) c

-- ---- the bits of an enabled bank; w is its last megabyte less its start, modulo 2 ^ 32
module _ (f : Fields) (n w : ℕ) (x : get_or f.starts n 0 < 2 ^ 16) (y : get_or f.lasts n 0 < 2 ^ 16) (v : w < 2 ^ 32) (d : (w + get_or f.starts n 0) % 2 ^ 32 ≡ get_or f.lasts n 0) where
  pub bits_are : (k : ℕ) → SizeBits (w % 2 ^ 31) (code_by f n) k → w < longest_of (code_by f n) → Some k ≡ bits_unless_faulty (enabled_by f n)
  unfolding bits_unless_faulty megabyte_bits enabled_by megabytes
  bits_are k z l =
      let start = get_or f.starts n 0 in
      let last = get_or f.lasts n 0 in
      let e : last + 1 - start ≡ w % 2 ^ 31 + 1 = omega (arith, l, longest_most (code_by f n) (code_below f n)) in
      rw (faulty_is f n w x y v d, lt-leb (longest_of (code_by f n)) w l, e) (ap (λ (i : ℕ). Some i) (omega (arith, z (omega (arith, l)))))

  pub bits_missing : longest_of (code_by f n) ≤ w → None ≡ bits_unless_faulty (enabled_by f n)
  unfolding bits_unless_faulty
  bits_missing l = rw (faulty_is f n w x y v d, le-leb (longest_of (code_by f n)) w l)

-- ---- the bits of any bank
pub few_bits : (b : Bank) → Decoded b → megabyte_bits b ≤ 8
unfolding megabyte_bits
few_bits b h = omega arith

pub cells_bits : (b : Bank) → Decoded b → cells b ≡ 2 ^ (17 + megabyte_bits b)
unfolding cells megabyte_bits
cells_bits b h = ap (λ (x : ℕ). 2 ^ x) (omega arith)

-- a faulty bank alone has none
pub faulty_stands : (f : Fields) (n : ℕ) → is_none (bits_unless_faulty (enabled_by f n)) ≡ faulty (enabled_by f n)
unfolding bits_unless_faulty
faulty_stands f n = by_cases (faulty (enabled_by f n)) (λ t. rw t) (λ t. rw t)

-- the column bits, by those bits and the row bits
pub columns_are : (b : Bank) → Decoded b → 17 + megabyte_bits b - b.row_bits ≡ b.column_bits
unfolding megabyte_bits
columns_are b h = omega arith

-- and the row bits are what is left
pub rows_left : (b : Bank) → Decoded b → 17 + megabyte_bits b - b.column_bits ≡ b.row_bits
unfolding megabyte_bits
rows_left b h = omega arith

-- the row bits of an enabled bank, by those bits
pub rows_by_bits : (f : Fields) (n : ℕ) → (enabled_by f n).row_bits ≡ fewest_row_bits + code_by f n + megabyte_bits (enabled_by f n) / 8
unfolding enabled_by megabyte_bits
rows_by_bits f n =
    let L = megabytes (get_or f.starts n 0) (get_or f.lasts n 0) in
    let code = code_by f n in
    let R = fewest_row_bits + code in
    by_cases (eqb code 3 && ltb 128 L)
    (λ t.
    let e = eqb-true code 3 (and_left (eqb code 3) (ltb 128 L) t) in
    let l = ltb-true 128 L (and_right (eqb code 3) (ltb 128 L) t) in
    rw (e, rows_by_length L l, long_columns L l))
    (λ t.
    let c = columns_narrow R L (omega arith) in
    let r = rows_by_code code L (λ l e. contra (rw (e, lt-ltb 128 L l)) t) in
    rw r (omega (arith, c, code_below f n)))

-- ---- a span holds a megabyte, by one comparison; w is the megabyte less the start, modulo 2 ^ 32
pub within_is :
    (start last mb w : ℕ)
    → start ≤ last
    → last < 2 ^ 16
    → w < 2 ^ 32
    → mb < 2 ^ 32
    → (w + start) % 2 ^ 32 ≡ mb → leb w (last - start) ≡ (leb start mb && leb mb last)
within_is start last mb w o l v h d =
    by_cases (ltb mb start)
    (λ t. let m = ltb-true mb start t in rw (lt-leb start mb m, lt-leb w (last - start) (omega (arith, m))))
    (λ t.
    let m = ltb-false mb start t in
    by_cases (ltb last mb)
    (λ u. let k = ltb-true last mb u in rw (le-leb start mb m, lt-leb mb last k, lt-leb w (last - start) (omega (arith, k))))
    (λ u. let k = ltb-false last mb u in rw (le-leb start mb m, le-leb mb last k, le-leb w (last - start) (omega (arith, k)))))
