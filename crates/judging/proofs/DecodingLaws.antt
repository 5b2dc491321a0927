-- The bits of an enabled bank that is faulty: the fewest if it starts above its end, the most of its row code if it is too long.
use mathlib.Core.Path.{◌≡◌, refl, sym, ◌∙◌}
use mathlib.Core.Bool.{true, false, cond}
use Prim.Native.Nat.{ℕ, zero, suc, ◌+◌, ◌-◌, ◌*◌, ◌/◌, ◌^◌, ◌≤◌, ◌<◌}
use native.Mathlib.Omega.{arith}
use lib.Dec.{ltb}
use lib.ListN.{get_or}
use lib.Pow.{pow_mono}
use borrow.Author.Tests.{ltb-true, leb-false, le-leb, lt-leb, lt-ltb, not-true}
use Rattle.basics.proofs.RangeLaws.{by_cases, first_at}
use Rattle.std.specs.Prelude.{Some, None}
use Rattle.address_map.specs.declared.fields.Fields.{Fields}
use Rattle.banks.specs.Setup.{fewest_row_bits, megabytes, row_bits_of, fits, column_limit, column_bits_of}
use Rattle.banks.specs.Judge.{inverted, too_long, faulty}
use Rattle.banks.proofs.FieldLaws.{limit_between, rows_by_code, fits_in}
use Rattle.address_map.specs.CodeFields.{code_by, longest_of, enabled_by}
use Rattle.address_map.specs.CodeSelection.{megabyte_bits, bits_unless_faulty}
use Rattle.address_map.proofs.SetupLaws.{code_below, decoded_enabled}
use Rattle.address_map.proofs.LongestLaws.{fits_longest}

-- so long a span takes the most row bits of its code
rows_too_long : (code L : ℕ) → code < 4 → longest_of code < L → row_bits_of code L ≡ row_bits_of code 1024
unfolding row_bits_of column_limit longest_of
rows_too_long zero L h l = refl
rows_too_long (suc zero) L h l = refl
rows_too_long (suc (suc zero)) L h l = refl
rows_too_long (suc (suc (suc zero))) L h l = rw (lt-ltb 128 L (omega arith))
rows_too_long (suc (suc (suc (suc k)))) L h l = absurd (omega arith)

-- and the most column bits
columns_too_long : (R L : ℕ) → fewest_row_bits ≤ R → fits R L (column_limit R) ≡ false → column_bits_of R L ≡ column_limit R
unfolding column_bits_of
columns_too_long R L h no_room =
    let m = column_limit R in
    let least = (limit_between R (omega arith)).0 in
    let long = leb-false L (2 ^ (R + m - 17)) (sym (fits_in R L m (omega (arith, least))) ∙ no_room) in
    first_at (fits R L) m 8 m least (omega arith) (λ z. absurd (omega arith))
    (λ j from to.
    let p : 2 ^ (R + j - 17) ≤ 2 ^ (R + m - 17) = pow_mono {j = R + m - 17} (omega arith) in
    fits_in R L j (omega arith) ∙ lt-leb L (2 ^ (R + j - 17)) (omega (arith, p, long)))

-- no megabytes fit in the fewest column bits
columns_none : (R : ℕ) → fewest_row_bits ≤ R → column_bits_of R 0 ≡ 8
unfolding column_bits_of
columns_none R h =
    first_at (fits R 0) (column_limit R) 8 8 (omega arith) (limit_between R (omega arith)).0
    (λ _. fits_in R 0 8 (omega arith) ∙ le-leb 0 (2 ^ (R + 8 - 17)) (omega arith)) (λ j from to. absurd (omega arith))

-- as the code computes them
most_is : (code : ℕ) → code < 4 → 17 + (2 * code + 1 + code / 3) ≡ row_bits_of code 1024 + column_limit (row_bits_of code 1024)
unfolding row_bits_of column_limit
most_is zero h = refl
most_is (suc zero) h = refl
most_is (suc (suc zero)) h = refl
most_is (suc (suc (suc zero))) h = refl
most_is (suc (suc (suc (suc k)))) h = absurd (omega arith)

pub faulty_bits :
    (f : Fields) (n : ℕ)
    → faulty (enabled_by f n) ≡ true
    → cond (ltb (get_or f.lasts n 0) (get_or f.starts n 0)) (code_by f n) (2 * code_by f n + 1 + code_by f n / 3) ≡ megabyte_bits (enabled_by f n)
unfolding faulty inverted too_long megabyte_bits enabled_by megabytes
faulty_bits f n bad =
    let start = get_or f.starts n 0 in
    let last = get_or f.lasts n 0 in
    let code = code_by f n in
    let L = last + 1 - start in
    by_cases (ltb last start)
    (λ t.
    let none : L ≡ 0 = omega (arith, ltb-true last start t) in
    rw (t, none, rows_by_code code 0 (λ l _. omega (arith, l)), columns_none (fewest_row_bits + code) (omega arith)) (omega arith))
    (λ t.
    let R = row_bits_of code L in
    let full : fits R L (column_limit R) ≡ false = not-true (fits R L (column_limit R)) (rw t at bad) in
    let long = leb-false L (longest_of code) (sym (fits_longest code L (code_below f n)) ∙ full) in
    let rows = rows_too_long code L (code_below f n) long in
    rw (t, columns_too_long R L (decoded_enabled f n).rows_least full, rows) (omega (arith, most_is code (code_below f n))))

-- a faulty bank alone has no bits
pub sound_bits : (f : Fields) (n k : ℕ) → Some k ≡ bits_unless_faulty (enabled_by f n) → k ≡ megabyte_bits (enabled_by f n)
unfolding bits_unless_faulty
sound_bits f n k =
    by_cases (faulty (enabled_by f n)) (λ t. rw t (λ e. absurd (cc))) (λ t. rw t (λ e. cc))

pub faulty_known : (f : Fields) (n : ℕ) → None ≡ bits_unless_faulty (enabled_by f n) → faulty (enabled_by f n) ≡ true
unfolding bits_unless_faulty
faulty_known f n =
    by_cases (faulty (enabled_by f n)) (λ t _. t) (λ t. rw t (λ e. absurd (cc)))

-- an enabled bank is made of its fields
pub bank_parts :
    (f : Fields) (n : ℕ)
    → record { enabled = true; start = get_or f.starts n 0; last = get_or f.lasts n 0; row_bits = (enabled_by f n).row_bits; column_bits = (enabled_by f n).column_bits } ≡ enabled_by f n
unfolding enabled_by
bank_parts f n = refl
